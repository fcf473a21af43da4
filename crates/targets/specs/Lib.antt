-- Types as places in an array of codes. The modules stand in the order in which a reader meets the rules.
pub mod Code
pub mod Place
pub mod Judge
pub mod Contract
pub mod Settling
-- A reader of the definitions can stop here: laws about them follow, and examples.
pub mod Complaints
pub mod Finite
pub mod Word
pub mod Coded
pub mod Lawful
pub mod Decode
pub mod Extent
pub mod Laws
pub mod Short
pub mod Meaning
pub mod Examples
