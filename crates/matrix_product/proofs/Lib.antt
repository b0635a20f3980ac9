pub mod Fits
pub mod Steps
pub mod Calls
