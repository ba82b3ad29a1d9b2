pub mod Or
pub mod Cells
