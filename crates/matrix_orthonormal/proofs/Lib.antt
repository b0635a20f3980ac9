pub mod Lengths
pub mod Steps
pub mod Calls
pub mod Faint
