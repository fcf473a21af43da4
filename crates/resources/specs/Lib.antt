pub mod Marked
pub mod Settled
pub mod Roots
pub mod Objects
pub mod Total
pub mod Flat
pub mod OneRow
pub mod Meaning
