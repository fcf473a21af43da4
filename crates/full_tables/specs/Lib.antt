-- What 19 says of a file.
pub mod Full
