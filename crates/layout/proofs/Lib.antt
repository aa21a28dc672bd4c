pub mod Compose
pub mod Words
pub mod Regions
pub mod Writers
pub mod Readers
pub mod Image
