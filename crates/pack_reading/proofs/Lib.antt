pub mod Faults
pub mod Laws
pub mod Lookup
pub mod Theorems
