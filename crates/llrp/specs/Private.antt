-- Words of private functions: no public contract names one.
pub mod GeneralClients
pub mod Refusals
