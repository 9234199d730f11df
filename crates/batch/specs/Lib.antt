pub mod Batch
pub mod Promises
