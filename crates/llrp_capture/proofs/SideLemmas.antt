-- One side of a connection: a piece more, and a gap that is given up.
use Rattle.std.proofs.Common.{◌≡◌, ◌∙◌, ℕ, ◌+◌, ◌-◌, ◌<◌, inl, inr, List, [], ◌∷◌, ◌++◌, length, drop, get_or, refl, sym, ap, arith, length-append}
use Rattle.std.specs.Prelude.{◌≢◌, Option, Some, None, slice_get}
use Rattle.std.proofs.lemmas.Bool.{cases_lt}
use Rattle.std.proofs.lemmas.List.{get_or-drop}
use Rattle.std.proofs.lemmas.Option.{slice_get-get_or}
use Rattle.llrp_capture.specs.declared.reassembly.Reassembly.{Reassembly}
use Rattle.llrp_capture.specs.Calls.Pieces.{Piece, octet_in, octet_at, or_else, IsRun, at_place}
use Rattle.llrp_capture.specs.Calls.Reassembly.{Stands, GoesOn, NothingWaits}
use Rattle.llrp_capture.specs.Private.Windows.{Leads}
use Rattle.llrp_capture.specs.Private.Sides.{TakesPart, Passes}
use Rattle.llrp_capture.proofs.WindowLemmas.{or_else_none, slice_get_append_left, slice_get_append_right}

or_else_assoc : (a b c : Option ℕ) → or_else a (or_else b c) ≡ or_else (or_else a b) c
or_else_assoc None b c = refl
or_else_assoc (Some x) b c = refl

-- the octet with one piece more
octet_at_more : (pieces : List Piece) (piece : Piece) (at : ℕ) → octet_at (pieces ++ piece ∷ []) at ≡ or_else (octet_at pieces at) (octet_in piece at)
octet_at_more [] piece at = or_else_none (octet_in piece at)
octet_at_more (p ∷ ps) piece at = ap (or_else (octet_in p at)) (octet_at_more ps piece at) ∙ or_else_assoc (octet_in p at) (octet_at ps at) (octet_in piece at)

-- ---- a piece more

-- what the places have after a part was put there is what the pieces have from the next place on
seen : (pieces : List Piece) (piece : Piece) (here : ℕ) (old covered : List (Option ℕ)) (part : Piece)
    → ((k : ℕ) → octet_at pieces (here + k) ≡ at_place old k) → ((k : ℕ) → octet_in part k ≡ octet_in piece (here + k))
    → ((k : ℕ) → at_place covered k ≡ or_else (at_place old k) (octet_in part k))
    → (k : ℕ) → octet_at (pieces ++ piece ∷ []) (here + k) ≡ at_place covered k
seen pieces piece here old covered part waits same places k =
    octet_at_more pieces piece (here + k)
    ∙ ap (λ (o : Option ℕ). or_else o (octet_in piece (here + k))) (waits k)
    ∙ ap (or_else (at_place old k)) (sym (same k)) ∙ sym (places k)

or_else_some : (o : Option ℕ) (x : ℕ) (other : Option ℕ) → o ≡ Some x → or_else o other ≡ Some x
or_else_some o x other e = ap (λ (p : Option ℕ). or_else p other) e

-- an octet that pieces have stays with one piece more
kept : (pieces : List Piece) (piece : Piece) (at : ℕ) (octets : List ℕ) (k : ℕ) → k < length octets → octet_at pieces at ≡ slice_get octets k → octet_at (pieces ++ piece ∷ []) at ≡ slice_get octets k
kept pieces piece at octets k h e =
    let is : slice_get octets k ≡ Some (get_or octets k 0) = slice_get-get_or octets k 0 h in
    octet_at_more pieces piece at ∙ or_else_some (octet_at pieces at) (get_or octets k 0) (octet_in piece at) (e ∙ is) ∙ sym is

-- a run, and then what stands first from its end on
longer_run : (pieces : List Piece) (start : ℕ) (handed more : List ℕ) (waiting : List (Option ℕ))
    → ((k : ℕ) → k < length handed → octet_at pieces (start + k) ≡ slice_get handed k)
    → ((k : ℕ) → octet_at pieces (start + length handed + k) ≡ at_place waiting k)
    → Leads waiting more → IsRun pieces start (handed ++ more)
longer_run pieces start handed more waiting has waits leads =
    let size : length (handed ++ more) ≡ length handed + length more = length-append handed more in
    record {
      has = λ k h. elim (cases_lt k (length handed)) [
        | inl l ↦ has k l ∙ sym (slice_get_append_left handed more k l)
        | inr r ↦
            let at : start + k ≡ start + length handed + (k - length handed) = omega arith in
            let of : length handed + (k - length handed) ≡ k = omega arith in
            ap (octet_at pieces) at ∙ waits (k - length handed) ∙ leads.has (k - length handed) (omega arith)
            ∙ sym (slice_get_append_right handed more (k - length handed)) ∙ ap (slice_get (handed ++ more)) of
      ];
      ends =
          let at : start + length (handed ++ more) ≡ start + length handed + length more = omega arith in
          ap (octet_at pieces) at ∙ waits (length more) ∙ leads.ends;
    }

-- what waits further on
waits_after : (pieces : List Piece) (here count : ℕ) (waiting : List (Option ℕ)) → ((k : ℕ) → octet_at pieces (here + k) ≡ at_place waiting k)
    → (k : ℕ) → octet_at pieces (here + count + k) ≡ at_place (drop count waiting) k
waits_after pieces here count waiting waits k =
    let at : here + count + k ≡ here + (count + k) = omega arith in
    ap (octet_at pieces) at ∙ waits (count + k) ∙ sym (get_or-drop count waiting k None)

pub continues : (old new : Reassembly) (place ahead : ℕ) (octets rest more : List ℕ)
    → ((k : ℕ) → octet_in (record { place = ahead; octets = rest }) k ≡ octet_in (record { place = place; octets = octets }) (old.here + k))
    → TakesPart ahead rest old more new
    → (pieces : List Piece) (start : ℕ) (handed : List ℕ) → Stands pieces start handed old
    → Stands (pieces ++ record { place = place; octets = octets } ∷ []) start (handed ++ more) new
continues old new place ahead octets rest more same t pieces start handed s =
    let piece : Piece = record { place = place; octets = octets } in
    let here : old.here ≡ start + length handed = s.here in
    let size : length (handed ++ more) ≡ length handed + length more = length-append handed more in
    let all : (k : ℕ) → octet_at (pieces ++ piece ∷ []) (start + length handed + k) ≡ at_place t.covered k =
    seen pieces piece (start + length handed) old.waiting.items t.covered (record { place = ahead; octets = rest }) s.waits
    (λ k. same k ∙ ap (λ (n : ℕ). octet_in piece (n + k)) here) t.places in
    record {
      here = t.here ∙ omega arith;
      run = longer_run (pieces ++ piece ∷ []) start handed more t.covered
          (λ k h. kept pieces piece (start + k) handed k h (s.run.has k h)) all t.leads;
      waits = λ k.
          let at : start + length (handed ++ more) + k ≡ start + length handed + length more + k = omega arith in
          ap (octet_at (pieces ++ piece ∷ [])) at ∙ waits_after (pieces ++ piece ∷ []) (start + length handed) (length more) t.covered all k
          ∙ ap (λ (w : List (Option ℕ)). at_place w k) (sym t.waiting);
    }

-- ---- a gap

pub passes_on : (old new : Reassembly) (count : ℕ) (more : List ℕ) → ((k : ℕ) → k < count → at_place old.waiting.items k ≡ None) → Passes count old more new → GoesOn count more old new
passes_on old new count more none p = record {
  none = none;
  stands = λ pieces start handed s.
      let here : old.here ≡ start + length handed = s.here in
      let after : (k : ℕ) → octet_at pieces (start + length handed + count + k) ≡ at_place (drop count old.waiting.items) k =
      waits_after pieces (start + length handed) count old.waiting.items s.waits in
      let from : (k : ℕ) → octet_at pieces (start + length handed + count + 0 + k) ≡ at_place (drop count old.waiting.items) k =
      λ k. let e : start + length handed + count + 0 + k ≡ start + length handed + count + k = omega arith in ap (octet_at pieces) e ∙ after k in
      record {
        here = p.here ∙ omega arith;
        run = longer_run pieces (start + length handed + count) [] more (drop count old.waiting.items) (λ k h. absurd (omega arith)) from p.leads;
        waits = λ k. waits_after pieces (start + length handed + count) (length more) (drop count old.waiting.items) after k
            ∙ ap (λ (w : List (Option ℕ)). at_place w k) (sym p.waiting);
      };
}

-- some octet is handed on where the first place has one
pub some_more : (waiting : List (Option ℕ)) (count : ℕ) (more : List ℕ) → at_place waiting count ≢ None → Leads (drop count waiting) more → more ≢ []
some_more waiting count more some leads e =
    let first : at_place (drop count waiting) 0 ≡ None = ap (λ (m : List ℕ). at_place (drop count waiting) (length m)) (sym e) ∙ leads.ends in
    let at : count + 0 ≡ count = omega arith in
    some (ap (at_place waiting) (sym at) ∙ sym (get_or-drop count waiting 0 None) ∙ first)

-- where nothing waits, all places from any on are empty
pub skips_on : (old new : Reassembly) (lost : ℕ) → NothingWaits old → new.here ≡ old.here + lost → new.waiting.items ≡ [] → GoesOn lost [] old new
skips_on old new lost nothing here waiting = record {
  none = λ k h. nothing k;
  stands = λ pieces start handed s.
      let was : old.here ≡ start + length handed = s.here in
      let none : (k : ℕ) → octet_at pieces (start + length handed + lost + k) ≡ None =
      λ k. let at : start + length handed + lost + k ≡ start + length handed + (lost + k) = omega arith in ap (octet_at pieces) at ∙ s.waits (lost + k) ∙ nothing (lost + k) in
      record {
        here = here ∙ omega arith;
        run = record { has = λ k h. absurd (omega arith); ends = none 0 };
        waits = λ k. let at : start + length handed + lost + 0 + k ≡ start + length handed + lost + k = omega arith in
            ap (octet_at pieces) at ∙ none k ∙ sym (ap (λ (w : List (Option ℕ)). at_place w k) waiting);
      };
}
