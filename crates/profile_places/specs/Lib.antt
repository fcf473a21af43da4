-- Where each rule of the driver's profile (02, Req 07) is broken, over the file tree and where its values stand, and that the loader's places are these.
pub mod Pieces
pub mod Broken
pub mod Written
pub mod Rising
pub mod Numbers
pub mod Names
pub mod Pages
pub mod Values
