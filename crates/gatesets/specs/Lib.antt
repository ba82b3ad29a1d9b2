pub mod Refusals
pub mod Splits
pub mod Rules
pub mod Derived
pub mod Lent
