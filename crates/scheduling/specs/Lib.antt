pub mod Running
pub mod Waiters
pub mod Steps
