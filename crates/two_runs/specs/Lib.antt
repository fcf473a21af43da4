pub mod Texts
pub mod Alike
