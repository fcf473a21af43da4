-- Small laws that the other crates share. They speak of nothing of ours.
pub mod Small
pub mod Ok
