pub mod Under
pub mod Loads
pub mod Promises
pub mod Laws
pub mod Written
