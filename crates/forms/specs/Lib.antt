pub mod Shapes
pub mod Faults
pub mod Spelled
pub mod Texts
