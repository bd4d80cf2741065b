pub mod Turns
pub mod Columns
pub mod Parts
pub mod Depth
pub mod Level
pub mod Stands
pub mod Passing
pub mod Spans
