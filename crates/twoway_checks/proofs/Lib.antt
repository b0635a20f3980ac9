pub mod Codes
pub mod Keys
pub mod Tallies
pub mod Counting
pub mod Empties
pub mod Doors
pub mod Answers
