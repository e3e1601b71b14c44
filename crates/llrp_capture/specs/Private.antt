-- Words of private functions.
pub mod Windows
pub mod Sides
