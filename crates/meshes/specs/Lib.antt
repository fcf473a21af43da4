pub mod Stages
pub mod Follows
pub mod Tells
