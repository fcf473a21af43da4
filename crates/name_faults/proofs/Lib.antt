pub mod Others
pub mod Leftmost
pub mod First
pub mod Laws
