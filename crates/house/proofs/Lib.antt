pub mod Along
pub mod Made
pub mod Allowed
