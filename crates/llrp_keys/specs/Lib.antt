pub mod TextLines
pub mod AllSchemes
pub mod AllForms
pub mod PrefixLines
pub mod NamedKey
pub mod ListLines
