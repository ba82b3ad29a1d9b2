pub mod Tables
pub mod Checks
pub mod Groups
pub mod Gates
pub mod Ignoring
pub mod Stacks
