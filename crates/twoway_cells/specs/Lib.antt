pub mod Organized
pub mod Starts
mod Worked
pub mod Inner
