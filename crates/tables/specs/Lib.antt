pub mod Limits
pub mod States
pub mod Readers
pub mod Setters
pub mod Counts
pub mod Boot
pub mod Sound
pub mod Test
