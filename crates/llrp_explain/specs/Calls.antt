-- What public contracts say that no promise of README rests on.
pub mod ExplainJson
pub mod ExplainLines
pub mod ExplainText
pub mod Explained
pub mod Explaining
pub mod FaultLines
pub mod FaultSentences
pub mod FaultText
pub mod HeaderFaults
pub mod KindTexts
pub mod Nearest
pub mod Printed
pub mod Printing
