pub mod Answer
pub mod Place
pub mod Bytes
pub mod Number
pub mod Numerals
pub mod Tokens
pub mod View
