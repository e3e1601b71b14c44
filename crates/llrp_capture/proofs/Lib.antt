pub mod WindowLemmas
pub mod SideLemmas
pub mod RowLemmas
pub mod LawLemmas
