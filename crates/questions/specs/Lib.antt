pub mod Faults
pub mod Layouts
pub mod Entries
pub mod Writing
pub mod Dictionaries
pub mod Walks
pub mod Rewriting
