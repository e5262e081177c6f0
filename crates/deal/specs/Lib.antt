pub mod Lines
pub mod Plans
pub mod Levels
pub mod Answers
