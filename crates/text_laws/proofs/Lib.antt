pub mod Numerals
pub mod Integers
pub mod Calls
