pub mod Laws
pub mod Signs
pub mod Spans
pub mod Times
