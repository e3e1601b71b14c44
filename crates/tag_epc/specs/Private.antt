-- Words of private functions: no public contract names one.
pub mod Layout
pub mod Numbers
