-- Words of private functions.
pub mod Doings
pub mod Living
pub mod Reading
pub mod RefusedRequests
pub mod Schedules
