pub mod LabelledLines
pub mod LabelledTexts
pub mod LabelledRuns
pub mod LabelledTags
pub mod Private
