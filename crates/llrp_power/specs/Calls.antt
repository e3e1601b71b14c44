-- What public contracts say that no promise of README rests on.
pub mod Capabilities
pub mod Entries
pub mod Laws
