-- What converting a pack between its forms answers, and its laws.
pub mod Convert
