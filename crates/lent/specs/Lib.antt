pub mod Wiping
pub mod Laying
