pub mod Steps
pub mod Shortest
pub mod Padded
pub mod FiveSteps
pub mod Bytes
