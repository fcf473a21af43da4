pub mod Import
pub mod Export
pub mod Trips
