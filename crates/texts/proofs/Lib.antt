pub mod Integers
pub mod Records
