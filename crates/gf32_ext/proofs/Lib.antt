pub mod Field
pub mod Norm
pub mod Powers
pub mod Numbers
pub mod Excluded
