pub mod Noted
pub mod Turns
pub mod Unmarked
pub mod Nulls
