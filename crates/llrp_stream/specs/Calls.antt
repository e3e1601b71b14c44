-- What public contracts say that no promise of README rests on.
pub mod Decoding
pub mod Device
pub mod Frames
pub mod Front
pub mod Items
pub mod Lengths
pub mod Pieces
pub mod Progress
pub mod Reading
pub mod StreamLaws
pub mod Received
pub mod Writing
