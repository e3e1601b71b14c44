-- Words of private functions: no public contract names one.
pub mod Stored
pub mod Writing
pub mod Standing
pub mod Weight
pub mod HeadOctets
pub mod Reading
