-- What 11 and 33 to 38 say of a file, in 02's words; that a name has one fault only.
pub mod Names
pub mod SameStart
pub mod Scan
pub mod OneFault
