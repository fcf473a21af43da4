pub mod FontWords
pub mod Held
pub mod Children
pub mod Characters
pub mod Bridge
