pub mod Writing
pub mod Steps
pub mod Numbers
pub mod Promises
