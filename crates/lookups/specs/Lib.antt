pub mod Parts
pub mod Texts
pub mod Signs
pub mod Times
pub mod Spans
pub mod Examples
pub mod Same
