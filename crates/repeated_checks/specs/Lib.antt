pub mod Checks
mod Worked
pub mod Inner
