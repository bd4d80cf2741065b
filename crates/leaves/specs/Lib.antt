pub mod Budget
pub mod Fields
pub mod Shapes
pub mod Leaf
