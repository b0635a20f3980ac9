pub mod Results
pub mod Rows
pub mod Effects
pub mod Corrections
