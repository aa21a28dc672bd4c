pub mod Standing
pub mod Entry
pub mod ByValue
pub mod FieldLaws
pub mod Calls
pub mod BootBytes
pub mod PageLaws
pub mod WalkLaws
