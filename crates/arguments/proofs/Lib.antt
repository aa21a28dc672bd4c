pub mod CountLaws
pub mod IndexLaws
