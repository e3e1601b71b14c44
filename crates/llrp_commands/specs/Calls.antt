-- What public contracts say that no promise of README rests on.
pub mod Command
pub mod Digits
pub mod Encode
pub mod EncodeJson
pub mod Epc
pub mod Explain
pub mod Fields
pub mod ShowNames
pub mod ShowSegments
pub mod Labelled
pub mod Does
