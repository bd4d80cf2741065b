pub mod Tells
pub mod Walks
pub mod FromDecode
