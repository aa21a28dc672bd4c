pub mod Good
pub mod Sums
pub mod Running
pub mod Laid
pub mod Keys
