-- Words of private functions.
pub mod Words
