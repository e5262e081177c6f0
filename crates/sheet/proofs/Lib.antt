pub mod Lined
pub mod Whole
pub mod Listing
