-- The words of a row table: what a word holds, where it is, rows put and cleared, and then the laws of stores and of columns.
pub mod Word
pub mod Grids
pub mod Same
pub mod Put
pub mod Runs
pub mod Cleared
pub mod Stores
pub mod Cells
pub mod Words
pub mod Stored
