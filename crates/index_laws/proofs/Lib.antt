pub mod Records
pub mod Rows
pub mod Ended
pub mod Next
pub mod Holds
pub mod Extends
pub mod Numbered
