-- What is known where a walk begins, what its steps come to, and the contracts of its functions.
pub mod Known
pub mod Walks
pub mod Turns
pub mod Steps
pub mod Front
pub mod Promises
