use Rattle.std.proofs.Common.{◌≡◌, ◌<◌, ℕ, Some}
use Rattle.std.specs.Prelude.{slice_get}
use Rattle.tag_forms.specs.declared.prefixes.Entry.{Entry}
use Rattle.tag_forms.proofs.prefixes.entry_with.Given as goal

abbrev pub invariant-loop-entry : goal.invariant-loop-entry
invariant-loop-entry l = (at : ℕ) (entry : Entry) → at < l.entry-index → slice_get l.entries at ≡ Some entry → entry.start.items ≡ l.start → ⊥
