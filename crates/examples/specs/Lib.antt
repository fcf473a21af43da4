-- The worked examples of 01, by computation of the definitions.
pub mod Examples
