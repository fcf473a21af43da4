pub mod Packed
pub mod Places
pub mod Told
pub mod Reports
