pub mod Rows
pub mod Pieces
