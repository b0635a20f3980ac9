pub mod Epsilons
pub mod Mauchly
pub mod Corrections
mod Worked
pub mod Inner
