pub mod Parts
pub mod Fields
pub mod CodeTable
pub mod NameTable
pub mod Theorems
mod Compared
