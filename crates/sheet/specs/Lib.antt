pub mod Sheets
pub mod Calls
pub mod Inner
