-- Words of private functions: no public contract names one.
pub mod Changes
pub mod Conversations
pub mod Endings
pub mod Sights
pub mod Texts
pub mod Words
