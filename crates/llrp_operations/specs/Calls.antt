-- What public contracts say that no promise of README rests on.
pub mod Access
pub mod Changes
pub mod Course
pub mod CourseLaws
pub mod Errands
pub mod Inventory
pub mod Laws
pub mod Lines
pub mod Messages
pub mod Operations
pub mod ResultNames
pub mod Results
pub mod TagNames
pub mod Talking
pub mod Targets
pub mod Words
