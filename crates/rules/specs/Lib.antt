pub mod Seen
pub mod Schedule
pub mod Answers
pub mod Calls
pub mod Enter
