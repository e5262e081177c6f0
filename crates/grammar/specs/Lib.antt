pub mod Grammar
pub mod Sheets
pub mod Reading
pub mod Listing
