pub mod Tallies
pub mod Squeeze
