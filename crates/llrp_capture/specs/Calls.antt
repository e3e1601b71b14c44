-- What public contracts say that no promise of README rests on.
pub mod Connections
pub mod Laws
pub mod Pieces
pub mod Rows
pub mod Segments
pub mod Reassembly
