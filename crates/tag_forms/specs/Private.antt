-- Words of private functions: no public contract names one.
pub mod Lists
pub mod Prefixes
pub mod Reading
