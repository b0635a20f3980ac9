pub mod Littles
pub mod Heads
