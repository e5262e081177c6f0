pub mod Sharing
pub mod Counting
pub mod Levels
pub mod Places
pub mod Ladder
pub mod Down
pub mod Facilitating
pub mod Other
