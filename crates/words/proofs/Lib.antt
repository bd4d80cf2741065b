pub mod Tables
pub mod CodeWords
