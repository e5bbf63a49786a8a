pub mod Places
pub mod Access
pub mod Index
pub mod Units
