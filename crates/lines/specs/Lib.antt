pub mod Lines
pub mod Feeding
pub mod Promises
pub mod Calls
pub mod Numbers
