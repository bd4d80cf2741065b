pub mod Fields
pub mod Walks
pub mod Standing
pub mod Same
pub mod Tables
pub mod Examples
pub mod Meaning
