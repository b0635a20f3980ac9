pub mod Words
pub mod Singles
