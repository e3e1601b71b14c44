pub mod LineLemmas
pub mod LiveLemmas
pub mod NumberLists
pub mod PlaceLemmas
pub mod RefusedLemmas
pub mod ScheduleLemmas
pub mod TagLemmas
