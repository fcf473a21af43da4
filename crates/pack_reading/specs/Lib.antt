-- What reading a pack answers: the first fault with its number and place, or its files; and the laws that tie it to the layout.
pub mod Pack
pub mod Laws
pub mod Theorems
pub mod Parts
pub mod Lookup
pub mod Faults
