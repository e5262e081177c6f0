pub mod Apart
pub mod InTurn
pub mod Turn
pub mod Copied
