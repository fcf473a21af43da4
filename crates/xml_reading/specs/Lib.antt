-- What importing XML and exporting a file as XML answer (Req 13), and their laws.
pub mod Match
pub mod Ranges
pub mod Text
pub mod Plain
pub mod Document
pub mod Import
pub mod Laid
pub mod Names
pub mod Written
pub mod Answers
pub mod Strings
pub mod Theorems
pub mod Primaries
pub mod Steps
