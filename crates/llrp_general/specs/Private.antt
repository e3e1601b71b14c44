-- Words of private functions.
pub mod Acting
pub mod Due
pub mod Ending
pub mod Standing
