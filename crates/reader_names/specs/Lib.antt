-- Reader names, one on a line, and their refusals.
pub mod Lines
