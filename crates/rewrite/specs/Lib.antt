-- What the rewriter's functions promise.
pub mod Table
pub mod Steps
pub mod Measured
pub mod Pending
pub mod Contract
pub mod Whole
pub mod Loaded
pub mod Writes
