-- Words of private functions: no public contract names one.
pub mod LawfulWords
pub mod Settings
pub mod ReadWords
pub mod ReaderParts
