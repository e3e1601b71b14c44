-- What public contracts say that no promise of README rests on.
pub mod Lawful
pub mod Checks
pub mod Spelling
pub mod Writing
pub mod OpenTree
pub mod FrameLaws
pub mod Standing
pub mod Weight
pub mod HeadOctets
pub mod GrowthLaws
pub mod Deciding
pub mod Header
