pub mod Marks
pub mod Laying
pub mod OrKept
pub mod OrRows
pub mod OrEnds
