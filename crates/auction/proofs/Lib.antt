pub mod Noting
pub mod Standing
pub mod Common
pub mod Kept
pub mod Seated
pub mod Written
pub mod Settling
