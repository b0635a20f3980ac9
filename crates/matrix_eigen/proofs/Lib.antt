pub mod Squares
pub mod Steps
pub mod Calls
pub mod Faint
