pub mod Found
pub mod SearchLaws
pub mod Moves
