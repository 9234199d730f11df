pub mod Polynomials
pub mod Products
pub mod Answers
pub mod Numbers
pub mod Promises
