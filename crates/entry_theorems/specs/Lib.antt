-- What is demanded of the entries' numbers.
pub mod Told
pub mod Refusals
