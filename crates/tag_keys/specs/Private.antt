-- Words of private functions: no public contract names one.
pub mod Forms
pub mod Pieces
