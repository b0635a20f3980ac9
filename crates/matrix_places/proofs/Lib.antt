pub mod Sizes
pub mod Room
pub mod Rows
