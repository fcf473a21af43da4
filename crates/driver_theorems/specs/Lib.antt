-- What is demanded of the driver's loader.
pub mod Driver
