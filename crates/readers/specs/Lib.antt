-- The reader list and the shared count of a file.
pub mod Listed
pub mod Judged
pub mod Parts
pub mod Left
pub mod Turns
pub mod Contract
-- A reader of the definitions can stop here: laws about them follow.
pub mod Steps
pub mod Room
pub mod Passing
pub mod Turning
pub mod Whole
pub mod Meaning
