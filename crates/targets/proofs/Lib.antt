pub mod Loops
pub mod Judging
pub mod Resolving
