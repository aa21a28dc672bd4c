pub mod Answers
pub mod Chunks
pub mod Feed
pub mod Ruled
