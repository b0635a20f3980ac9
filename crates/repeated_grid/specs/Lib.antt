pub mod Table
mod Worked
pub mod Inner
