pub mod Codes
pub mod Overlap
pub mod Promises
