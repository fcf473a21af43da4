-- Lists of enum types as bytes (02, Req 02).
pub mod Judge
pub mod Contract
pub mod Noted
pub mod Laws
pub mod Lists
