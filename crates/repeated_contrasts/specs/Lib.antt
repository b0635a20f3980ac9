pub mod Covariance
pub mod Contrasts
mod Worked
pub mod Inner
