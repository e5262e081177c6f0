pub mod Names
pub mod Limits
pub mod Refusals
pub mod Fields
pub mod Lists
pub mod Making
