-- Heads of raw values, and what is below them. The modules stand in the order in which a reader meets the rules.
pub mod Placed
pub mod Plans
pub mod Opens
pub mod Total
-- A reader of the definitions can stop here: laws about them follow.
pub mod Slots
pub mod Nests
pub mod Below
pub mod Images
pub mod Pads
pub mod Meaning
