pub mod Row
pub mod Search
