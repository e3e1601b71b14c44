-- Words of private functions: no public contract names one.
pub mod Fits
pub mod Forms
pub mod LineSteps
pub mod Sessions
pub mod Sides
pub mod Stretches
