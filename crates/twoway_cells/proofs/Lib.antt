pub mod Starts
pub mod Sorts
pub mod Laying
pub mod Orders
pub mod Answers
pub mod Designs
