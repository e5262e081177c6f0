pub mod Making
pub mod View
pub mod Fields
pub mod Calls
pub mod Running
pub mod Told
pub mod Tests
pub mod Opening
