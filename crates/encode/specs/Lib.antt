pub mod Sizes
pub mod Promises
