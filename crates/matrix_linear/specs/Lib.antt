pub mod Rows
pub mod Skips
pub mod System
pub mod Inverse
pub mod Determinant
pub mod Inner
