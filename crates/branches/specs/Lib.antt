pub mod Rule
pub mod Frames
pub mod Framed
pub mod Table
pub mod Next
