pub mod SchemaLemmas
pub mod TableLaws
pub mod PlaceLemmas
pub mod ProfileLemmas
