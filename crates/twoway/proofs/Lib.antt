pub mod Counts
pub mod Design
pub mod Guards
pub mod Cells
pub mod MeanSquares
pub mod Skips
