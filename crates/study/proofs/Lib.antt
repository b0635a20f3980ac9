pub mod Ways
pub mod Reported
