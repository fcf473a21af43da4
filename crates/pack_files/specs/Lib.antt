-- Counting a file of a pack, under a lent list of enum types (02, Req 14).
pub mod Xnb
