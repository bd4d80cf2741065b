pub mod Apart
pub mod Tables
pub mod Lengths
pub mod Plain
pub mod RoundTrip
pub mod Again
pub mod OverLimit
pub mod Promises
