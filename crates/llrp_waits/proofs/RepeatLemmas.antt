-- A minute passes between two notes that are written.
use Rattle.std.proofs.Common.{◌≡◌, ◌+◌, ℕ, min, List, [], ◌∷◌, Option, None, Some, Bool, true, false, if◌then◌else◌, refl, ap, sym, subst, arith}
use Rattle.llrp_waits.specs.declared.repeats.Repeats.{Repeats}
use Rattle.llrp_waits.specs.Calls.Repeats.{AreApart, counts, is_due, is_past, OneAMinute, written}

-- one that is written comes a minute after the last, and the others as before
one_more : (last : Option ℕ) (now : ℕ) (later : List ℕ) → is_past now last ≡ true → AreApart (Some now) later → AreApart last (now ∷ later)
one_more None now later due apart = apart
one_more (Some last) now later due apart = (grind arith, apart)

by_test : (r : Repeats) (now : ℕ) (later : List ℕ) (test : Bool) → is_due now r ≡ test
    → ((s : Repeats) → AreApart s.last (written s later))
    → AreApart r.last (if test then now ∷ written (counts now r) later else written (counts now r) later)
by_test r now later true due rest =
    let s : Repeats = record { last = Some now; held = 0 } in
    let same : counts now r ≡ s = ap (λ (test : Bool). if test then s else record { last = r.last; held = min (r.held + 1) 18446744073709551615 }) due in
    one_more r.last now (written (counts now r) later) due (subst (λ (q : Repeats). AreApart (Some now) (written q later)) (sym same) (rest s))
by_test r now later false due rest =
    let s : Repeats = record { last = r.last; held = min (r.held + 1) 18446744073709551615 } in
    let same : counts now r ≡ s = ap (λ (test : Bool). if test then record { last = Some now; held = 0 } else s) due in
    subst (λ (q : Repeats). AreApart r.last (written q later)) (sym same) (rest s)

pub apart : OneAMinute
apart r [] = tt
apart r (now ∷ later) = by_test r now later (is_due now r) refl (λ s. apart s later)
