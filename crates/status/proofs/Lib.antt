pub mod LiveLaws
pub mod RowLaws
pub mod RowByRow
pub mod Queues
