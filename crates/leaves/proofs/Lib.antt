pub mod PlainLaws
pub mod RunLaws
pub mod SameLaws
