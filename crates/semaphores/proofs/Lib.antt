pub mod TargetLaws
pub mod WaitSignalLaws
pub mod ReleaseLaws
pub mod MakeLaws
