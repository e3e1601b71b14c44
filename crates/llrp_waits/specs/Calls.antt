-- What public contracts say that no promise of README rests on.
pub mod Heads
pub mod Repeats
pub mod WaitLaws
pub mod Waits
