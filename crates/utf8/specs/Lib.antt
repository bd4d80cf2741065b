pub mod Ascii
pub mod Characters
