-- How reader names are read, and the kinds of their heads as codes. How they are written stands in the layout.
pub mod Heading
pub mod Parse
pub mod Kind
pub mod Entries
pub mod Contract
-- A reader of the definitions can stop here: laws about them follow.
pub mod EntryLaws
pub mod Common
pub mod Local
pub mod Complete
pub mod Sound
pub mod Laws
pub mod Faults
pub mod Codes
