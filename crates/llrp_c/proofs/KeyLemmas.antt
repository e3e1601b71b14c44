-- What is written of a word's lines.
use Rattle.std.proofs.Common.{ℕ, List, inl, inr}
use Rattle.llrp_c.specs.Keys.{WritesLines}
use Rattle.llrp_c.specs.Private.Keys.{PutsLines}
use Rattle.llrp_c.specs.Tags.{AreOctetsOf}

pub lines_written : (AreLines : ℕ → List ℕ → Type 0) (octets old new text : List ℕ) (word count code : ℕ) → AreOctetsOf octets word → AreLines word text → PutsLines text old new count code → WritesLines AreLines octets old new count code
lines_written AreLines octets old new text word count code is are (inl (has, done)) = inl (word, text, is, are, has, done)
lines_written AreLines octets old new text word count code is are (inr (short, counted, same, room)) = inr (inl (word, text, is, are, short, counted, same, room))
