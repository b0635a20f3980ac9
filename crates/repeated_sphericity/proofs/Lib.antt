pub mod Fitted
pub mod Meaning
