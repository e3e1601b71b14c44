pub mod ArgumentLemmas
pub mod AskedLemmas
pub mod CommandLemmas
pub mod GivenArguments
pub mod ReadRows
