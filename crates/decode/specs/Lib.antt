pub mod Scan
pub mod Splitting
pub mod Asked
pub mod Symbols
pub mod Places
pub mod Halves
pub mod Promises
