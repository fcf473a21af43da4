pub mod Passed
pub mod Window
