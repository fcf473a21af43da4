-- What is demanded of the code, and that the code's contracts give it. Each record is the contract of a function of src/ that calls the code, and is named by what the code then does.
-- First what is demanded of loads, rewrites, padding, columns, branches and packs. These modules name the layouts and the code's own types; a reading is in Padding's `counted` alone, and Columns and Bytes name the lookups that they compare.
pub mod Loading
pub mod Rewriting
pub mod Padding
pub mod Columns
pub mod Branches
pub mod Bytes
pub mod Packs
pub mod Marks
pub mod Salvage
-- Then unique reading, and the laws from the contracts of the code to these demands.
pub mod Unique
pub mod Fitted
pub mod Standing
pub mod Laws
pub mod PackLaws
pub mod MarkLaws
pub mod SalvageLaws
