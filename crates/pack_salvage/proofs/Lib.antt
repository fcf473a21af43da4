pub mod Salvage
pub mod Stretches
