pub mod Fields
pub mod Entries
pub mod Pages
pub mod Walk
