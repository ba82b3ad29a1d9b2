pub mod Cells
pub mod Xor
pub mod Search
pub mod Submasks
