pub mod Salvaging
pub mod Written
