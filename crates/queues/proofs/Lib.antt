pub mod Tally
pub mod Squeezing
