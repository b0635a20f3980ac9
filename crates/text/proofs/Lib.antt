pub mod Fills
pub mod Widths
pub mod Numerals
pub mod Puts
