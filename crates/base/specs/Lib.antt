pub mod Limits
pub mod Refusals
pub mod Loop
pub mod Lists
pub mod Sizes
pub mod Histories
pub mod Inner
