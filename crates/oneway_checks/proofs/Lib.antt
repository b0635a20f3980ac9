pub mod Doors
pub mod Walk
