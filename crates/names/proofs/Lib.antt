mod Ends
pub mod Laws
pub mod Lookup
pub mod Steps
pub mod Whole
