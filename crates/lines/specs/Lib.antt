pub mod Answers
pub mod Hex
pub mod Line
