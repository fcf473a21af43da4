pub mod Looks
pub mod Took
