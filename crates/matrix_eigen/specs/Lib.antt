pub mod Qr
pub mod Values
