pub mod Troubles
pub mod Parser
pub mod View
