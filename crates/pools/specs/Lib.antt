pub mod Limits
pub mod Books
pub mod Resting
pub mod Away
pub mod Pairs
pub mod Sheets
