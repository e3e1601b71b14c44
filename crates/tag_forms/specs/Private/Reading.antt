-- Texts that are read only if they begin in some way.
use Rattle.std.specs.Prelude.{ℕ, Option, Some, None, Result, Ok, Err}
use Rattle.tag_forms.specs.declared.all_forms.AllFault.{AllFault}

-- the word that such a text is read as, or the first rule that refuses it; none where the text does not begin so
abbrev pub ReadsOrRefuses : Type 0 → (ℕ → Type 0) → (AllFault → Type 0) → Option (Result ℕ AllFault) → Type 0
ReadsOrRefuses begins reads refuses None = begins → ⊥
ReadsOrRefuses begins reads refuses (Some (Ok word)) = reads word
ReadsOrRefuses begins reads refuses (Some (Err f)) = refuses f
