-- What public contracts say that no promise of README rests on.
pub mod Answers
pub mod Forms
pub mod Laws
