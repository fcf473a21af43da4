-- The XML that stands for a list of texts, and the file tree that it is built into (Req 13). No reading program is in this crate.
pub mod First
pub mod Xml
pub mod Tree
