pub mod Written
pub mod Contract
pub mod Leaf
pub mod Loop
pub mod Room
