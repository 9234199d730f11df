pub mod Values
pub mod Places
pub mod Trim
pub mod About
pub mod Coefficients
pub mod Chien
pub mod Numbers
pub mod Examples
