pub mod Squares
pub mod Inner
