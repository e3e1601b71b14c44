-- The lines of a script's entries, part by part.
use Rattle.std.proofs.Common.{◌≡◌, ℕ, List, ◌∷◌, ◌++◌, refl, sym, subst, ◌∙◌, arith, codes, decimal}
use Rattle.std.specs.Fmt.{signed_decimal}
use Rattle.tag_uri.specs.TagText.{IsTextOf}
use Rattle.llrp_session.specs.declared.types.Sighting.{Sighting}
use Rattle.llrp_endpoints.specs.declared.script.Action.{Action}
use Rattle.llrp_endpoints.specs.declared.script.Action.TheVariants.{Seen, Tick}
use Rattle.llrp_endpoints.specs.declared.script.Entry.{Entry}
use Rattle.llrp_listing.specs.Calls.Splits.{Lacks, IsSplit}
use Rattle.llrp_endpoints.specs.Calls.Script.{IsSightingLine, IsActionLine, IsEntryLine, IsSightingInRange, IsInRange}
use Rattle.llrp_listing.proofs.SplitWords.{lacks_not, one_split, decimal_lacks, signed_lacks, two_words, no_second}

-- ---- sightings

pub sighting_first : (s : Sighting) (line : List ℕ) → Lacks 32 line → IsSightingLine s line → ⊥
sighting_first s line none h = lacks_not 32 line (decimal s.antenna) (signed_decimal s.rssi ++ (32 ∷ h.0)) none h.2

pub sighting_second : (s : Sighting) (line a rest : List ℕ) → IsSplit 32 line a rest → Lacks 32 rest → IsSightingInRange s → IsSightingLine s line → ⊥
sighting_second s line a rest p none r h = let t = r.antenna in no_second line a rest (decimal s.antenna) (signed_decimal s.rssi) h.0 p none (decimal_lacks 32 s.antenna (omega arith) (omega (arith, t))) h.2

-- the parts of a sighting's line
pub sighting_parts : (s : Sighting) (line a rest b epc : List ℕ) → IsSplit 32 line a rest → IsSplit 32 rest b epc → IsSightingInRange s → IsSightingLine s line → (a ≡ decimal s.antenna) × (b ≡ signed_decimal s.rssi) × IsTextOf s.epc epc
sighting_parts s line a rest b epc p q r h =
    let t = r.antenna in
    let w = two_words line a rest b epc (decimal s.antenna) (signed_decimal s.rssi) h.0 p q (decimal_lacks 32 s.antenna (omega arith) (omega (arith, t))) (signed_lacks 32 s.rssi (omega arith) r.rssi) h.2 in
    (w.0, w.1, subst (λ (x : List ℕ). IsTextOf s.epc x) (sym w.2) h.1)

-- ---- actions

-- the line's end is no tick, and its first word is not that of a sighting
pub no_action : (a : Action) (text word rest : List ℕ) → IsSplit 32 text word rest → (text ≡ codes "tick" → ⊥) → (word ≡ codes "seen" → ⊥) → IsActionLine a text → ⊥
no_action (Seen s) text word rest p tick seen h = seen (one_split 32 word (codes "seen") rest h.0 p.0 (refl, (refl, (refl, (refl, tt)))) (sym p.1 ∙ h.2)).0
no_action Tick text word rest p tick seen h = tick h

-- ---- entries

pub entry_first : (e : Entry) (line : List ℕ) → Lacks 32 line → IsEntryLine e line → ⊥
entry_first e line none h = lacks_not 32 line (decimal e.after) (decimal e.now ++ (32 ∷ h.0)) none h.2

pub entry_second : (e : Entry) (line a rest : List ℕ) → IsSplit 32 line a rest → Lacks 32 rest → IsInRange e → IsEntryLine e line → ⊥
entry_second e line a rest p none r h = no_second line a rest (decimal e.after) (decimal e.now) h.0 p none (decimal_lacks 32 e.after (omega arith) r.after) h.2

-- the parts of an entry's line
pub entry_parts : (e : Entry) (line a rest b action : List ℕ) → IsSplit 32 line a rest → IsSplit 32 rest b action → IsInRange e → IsEntryLine e line → (a ≡ decimal e.after) × (b ≡ decimal e.now) × IsActionLine e.action action
entry_parts e line a rest b action p q r h =
    let w = two_words line a rest b action (decimal e.after) (decimal e.now) h.0 p q (decimal_lacks 32 e.after (omega arith) r.after) (decimal_lacks 32 e.now (omega arith) r.now) h.2 in
    (w.0, w.1, subst (λ (x : List ℕ). IsActionLine e.action x) (sym w.2) h.1)
