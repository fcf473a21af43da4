-- Which bytes a tree of values may have: document 000 within the rules of document 01. No reading program is in this crate.
-- The modules stand in the order in which a reader meets the rules.
pub mod Number
pub mod Text
pub mod Target
pub mod Name
pub mod Kind
pub mod EnumList
pub mod Fixed
pub mod Named
pub mod Fault
pub mod Complaint
pub mod Image
pub mod Tree
pub mod Slot
pub mod Mesh
pub mod Head
pub mod Font
pub mod Layout
pub mod Resource
pub mod Rows
pub mod Table
pub mod Branches
pub mod File
pub mod Fits
pub mod Shortest
pub mod Refusals
