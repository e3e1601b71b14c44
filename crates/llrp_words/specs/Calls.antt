-- What public contracts say that no promise of README rests on.
pub mod Arguments
pub mod Asked
pub mod Requests
pub mod Said
