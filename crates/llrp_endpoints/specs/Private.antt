-- Words of private functions: no public contract names one.
pub mod Acting
pub mod Asides
pub mod EndsStand
pub mod GatheringStands
pub mod Objects
pub mod Reads
pub mod Script
pub mod ServingStands
pub mod TagListing
pub mod Server
pub mod Watching
