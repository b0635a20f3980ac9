pub mod Wipes
pub mod Lays
