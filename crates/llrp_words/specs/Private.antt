-- Words of private functions: no public contract names one.
pub mod Parse
pub mod Words
pub mod Rows
