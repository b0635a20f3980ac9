pub mod Rows
pub mod Soundness
pub mod Inner
