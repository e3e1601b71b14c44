pub mod AnswerLemmas
pub mod FileLemmas
pub mod FormLemmas
pub mod LineLemmas
