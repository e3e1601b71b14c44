pub mod AskLemmas
pub mod CourseLemmas
pub mod FileLemmas
pub mod FrameLemmas
pub mod PauseLemmas
pub mod RunLemmas
