-- Loading with less room, and what it says of loading with more (02, Req 14).
pub mod Grows
pub mod Part
