-- Words of private functions: no public contract names one.
pub mod Command
pub mod Digits
pub mod EncodeJson
pub mod Explain
