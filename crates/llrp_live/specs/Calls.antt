-- What public contracts say that no promise of README rests on.
pub mod Doings
pub mod Expectations
pub mod Lines
pub mod Living
pub mod Moments
pub mod Notices
pub mod Places
pub mod Reading
pub mod RefusedRequests
pub mod Rounds
pub mod Schedules
pub mod Starts
pub mod Statuses
pub mod TagFiles
