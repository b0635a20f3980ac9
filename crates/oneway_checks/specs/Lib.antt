pub mod Checks
pub mod Inner
