pub mod AnswerLaws
pub mod Examples
pub mod HexLaws
pub mod LineLaws
