pub mod Accepts
pub mod Bounds
pub mod Complete
pub mod Heads
pub mod Refusals
pub mod Sound
pub mod Theorems
pub mod Unique
