pub mod First
pub mod Values
