pub mod Examples
pub mod FeedLaws
pub mod FromBoot
pub mod HeldLaws
pub mod PaperSession
pub mod Whole
