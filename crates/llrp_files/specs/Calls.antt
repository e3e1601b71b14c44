-- What public contracts say that no promise of README rests on.
pub mod Ending
pub mod Files
