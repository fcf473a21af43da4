pub mod Files
pub mod Walk
pub mod Short
