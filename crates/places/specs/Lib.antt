-- Where the seven-bit numbers of a file start, by its rows, and how many bytes they have beyond their shortest forms.
pub mod Places
pub mod Padding
