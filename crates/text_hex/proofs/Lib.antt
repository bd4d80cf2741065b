pub mod Putting
pub mod Digits
pub mod Turns
pub mod Negated
pub mod Texts
