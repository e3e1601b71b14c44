-- Words of private functions: no public contract names one.
pub mod Lines
pub mod Printed
pub mod Words
