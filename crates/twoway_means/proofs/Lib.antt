pub mod Places
pub mod Squares
pub mod Left
