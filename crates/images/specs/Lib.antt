pub mod Level
pub mod Laws
