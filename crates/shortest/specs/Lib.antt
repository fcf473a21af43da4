-- The shortest bytes of file trees, and that they are what a file is with each of its seven-bit numbers in its shortest form.
pub mod Short
pub mod File
pub mod Places
pub mod Rewrites
pub mod Lists
pub mod Rewrite
pub mod Theorems
