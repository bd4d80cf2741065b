pub mod Table
pub mod Judging
pub mod Tags
pub mod Flat
