pub mod States
pub mod LineLaws
pub mod Sentences
pub mod SlotLaws
pub mod TestLaws
pub mod BootLaws
pub mod Lines
