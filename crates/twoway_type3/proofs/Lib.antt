pub mod Sizes
pub mod Rows
pub mod Halves
pub mod Chains
pub mod Guards
pub mod Answers
