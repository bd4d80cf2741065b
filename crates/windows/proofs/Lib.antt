pub mod Moves
pub mod Steps
pub mod Streams
