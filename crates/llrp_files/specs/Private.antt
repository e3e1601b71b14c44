-- Words of private functions: no public contract names one.
pub mod Files
