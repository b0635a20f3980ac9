pub mod Lines
pub mod Squares
