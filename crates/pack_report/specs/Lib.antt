-- Adding a pack to a report under a lent list of enum types (02, Req 14).
pub mod Files
pub mod Add
