pub mod Matrices
pub mod Wald
pub mod Answer
pub mod Inner
