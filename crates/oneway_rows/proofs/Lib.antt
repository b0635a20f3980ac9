pub mod Laid
pub mod Counted
pub mod Parts
pub mod Told
pub mod Clean
