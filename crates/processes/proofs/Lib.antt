pub mod ProcessLaws
pub mod MakeLaws
