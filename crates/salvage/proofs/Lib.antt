pub mod Leads
pub mod Gaps
pub mod Pieces
pub mod Turns
pub mod Puts
