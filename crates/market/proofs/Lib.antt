pub mod Entries
pub mod Tested
pub mod Placing
pub mod Paired
pub mod Narrow
