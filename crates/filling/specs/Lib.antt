pub mod Totals
pub mod Filling
pub mod Fair
pub mod Laws
pub mod Mechanisms
pub mod Rules
