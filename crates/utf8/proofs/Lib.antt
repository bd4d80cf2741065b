pub mod Words
pub mod Runs
pub mod Steps
pub mod Stores
