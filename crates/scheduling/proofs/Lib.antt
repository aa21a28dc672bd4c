pub mod ScheduleLaws
pub mod WaiterLaws
pub mod RunningLaws
pub mod StepLaws
