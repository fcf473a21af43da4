pub mod Text
pub mod Plain
pub mod Like
pub mod Run
pub mod Same
