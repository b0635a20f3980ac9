pub mod Summaries
pub mod Distances
pub mod Reports
pub mod Spread
