pub mod Turns
pub mod Standing
pub mod Held
pub mod Table
