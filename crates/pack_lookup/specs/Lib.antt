pub mod Compared
pub mod Lookup
pub mod Written
