pub mod Cells
pub mod Checks
pub mod Data
mod Worked
pub mod Inner
