pub mod Imported
pub mod Fits
pub mod Trips
