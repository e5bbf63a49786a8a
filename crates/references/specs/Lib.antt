pub mod Search
pub mod Reads
pub mod Tables
pub mod Keys
pub mod Names
pub mod Warnings
