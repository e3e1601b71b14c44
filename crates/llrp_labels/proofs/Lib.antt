pub mod VisibleTexts
pub mod LineLemmas
pub mod TextSteps
pub mod TagLemmas
