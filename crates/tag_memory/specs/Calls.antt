-- What public contracts say that no promise of README rests on.
pub mod Memory
pub mod Results
pub mod Laws
