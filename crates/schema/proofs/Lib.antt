pub mod Lookups
pub mod Given
pub mod Tables
pub mod Accepted
pub mod Naming
