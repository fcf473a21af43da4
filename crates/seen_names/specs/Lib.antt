-- Marks of names in a table.
pub mod Sum
pub mod Seen
pub mod Laws
