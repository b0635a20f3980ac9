pub mod Adding
pub mod Finding
pub mod Passed
pub mod Squares
pub mod Sought
pub mod Chains
