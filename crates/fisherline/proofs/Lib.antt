pub mod Spaced
pub mod Short
