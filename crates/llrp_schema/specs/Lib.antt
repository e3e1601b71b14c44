pub mod Schema
pub mod Calls
pub mod Private
