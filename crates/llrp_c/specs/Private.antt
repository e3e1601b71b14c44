-- Words of private functions: no public contract names one.
pub mod Frames
pub mod Keys
pub mod Parts
pub mod Put
pub mod Reports
