pub mod Field
pub mod Roots
pub mod Promises
