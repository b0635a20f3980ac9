pub mod Sizes
pub mod Calls
pub mod Lengths
pub mod Taken
