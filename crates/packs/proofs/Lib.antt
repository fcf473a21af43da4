pub mod Ascii
pub mod Turns
pub mod Whole
