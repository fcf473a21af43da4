-- The proof that two texts compare as their bytes do.
pub mod Lexicographic
