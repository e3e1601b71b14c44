-- What public contracts say that no promise of README rests on.
pub mod Table
pub mod Contents
pub mod Sightings
pub mod World
pub mod Agreement
pub mod TableLaws
pub mod LawfulWords
pub mod LawfulStates
pub mod MessageWorld
pub mod ReadWords
pub mod MessageAgreement
pub mod ReaderSteps
pub mod Answers
pub mod NextClient
pub mod Due
pub mod SideEvents
pub mod ClientSteps
