pub mod BitLemmas
pub mod OperationLemmas
