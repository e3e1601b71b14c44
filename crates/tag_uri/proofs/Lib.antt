pub mod ComponentLemmas
pub mod Deciding
pub mod DecimalLemmas
mod EightDigits
pub mod GeneralLemmas
pub mod HexadecimalLemmas
mod LastDigits
pub mod LawfulTexts
pub mod PrintLemmas
mod QuickLemmas
pub mod ReadLemmas
pub mod RowDigits
pub mod RuleLemmas
pub mod TextBytes
pub mod TextLaws
pub mod TextShape
pub mod WritingLemmas
pub mod UriLemmas
