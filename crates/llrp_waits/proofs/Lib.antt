pub mod RepeatLemmas
pub mod WaitLemmas
