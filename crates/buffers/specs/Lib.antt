pub mod Output
pub mod Reader
pub mod Fits
pub mod Buffer
pub mod Search
pub mod Table
pub mod Options
pub mod WarningKinds
