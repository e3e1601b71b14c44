pub mod Layout
pub mod LawfulWord
pub mod Faults
pub mod Calls
pub mod Private
