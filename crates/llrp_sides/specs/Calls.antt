-- What public contracts say that no promise of README rests on.
pub mod Blocks
pub mod Captures
pub mod Firsts
pub mod Pairs
pub mod Sides
pub mod Stretches
pub mod Verdicts
