-- How a value begins and ends.
pub mod Total
pub mod Beginnings
pub mod Endings
-- A reader of the definitions can stop here: laws about them follow.
pub mod Start
pub mod Close
pub mod Meaning
