-- What public contracts say that no promise of README rests on.
pub mod Access
pub mod AccessEnding
pub mod Ask
pub mod Clients
pub mod Farewell
pub mod GeneralClients
pub mod Labels
pub mod Network
pub mod Plan
pub mod Refusals
pub mod Watch
pub mod WholeFrames
