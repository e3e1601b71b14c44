-- What public contracts say that no promise of README rests on.
pub mod Acting
pub mod Asides
pub mod GatheringStands
pub mod HeardLaws
pub mod PlanLaws
pub mod PlanTexts
pub mod Plans
pub mod ReadRoSpec
pub mod ReadScript
pub mod Script
pub mod ScriptLaws
pub mod Sending
pub mod ServingLaws
pub mod ServingStands
pub mod TagListing
