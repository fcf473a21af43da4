pub mod Files
pub mod Leaves
pub mod Parts
pub mod Short
pub mod Strings
pub mod Valid
pub mod Walks
