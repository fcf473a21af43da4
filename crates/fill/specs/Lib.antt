pub mod Copies
pub mod Fill
