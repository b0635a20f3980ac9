pub mod Shape
pub mod Coding
pub mod Tables
pub mod Normal
pub mod Equations
pub mod Counted
pub mod Inner
