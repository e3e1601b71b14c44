-- Words of private functions: no public contract names one.
pub mod Building
pub mod Decoding
pub mod Frames
pub mod Front
pub mod Headers
pub mod Keeping
pub mod OpenNodes
pub mod Pieces
pub mod Profile
pub mod Reading
pub mod Steps
pub mod Tails
pub mod Received
pub mod Writing
