pub mod Telling
pub mod Reasons
