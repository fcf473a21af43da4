-- What salvaging a marked pack answers, and its laws.
pub mod Scan
pub mod Scanning
pub mod Stretches
pub mod Salvage
