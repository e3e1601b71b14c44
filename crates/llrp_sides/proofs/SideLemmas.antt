-- One side of a connection of which no octet is missing.
use Rattle.std.proofs.Common.{◌≡◌, ℕ, ◌+◌, ◌<◌, ◌≤◌, ◌&&◌, Bool, List, [], ◌∷◌, ◌++◌, length, arith, Option, Some, None, Result, Ok, Err, refl, sym, ap, subst, ◌∙◌}
use Rattle.std.specs.Prelude.{IfOk, OnOk}
use Rattle.std.specs.Option.{ForSome}
use Rattle.std.proofs.lemmas.List.{append-nil}
use Rattle.llrp_capture.specs.declared.reassembly.Reassembly.{Reassembly}
use Rattle.llrp_capture.specs.declared.reassembly.Took.{Took}
use Rattle.llrp_capture.specs.declared.reassembly.Took.TheVariants.{Beyond, Taken}
use Rattle.llrp_capture.specs.declared.segment.Segment.{Segment}
use Rattle.llrp_capture.specs.Calls.Pieces.{Piece, IsRun, octet_at}
use Rattle.llrp_capture.specs.Calls.Reassembly.{GivesUp, Takes, Stands as StandsFor}
use Rattle.llrp_capture.proofs.LawLemmas.{has_one_place}
use Rattle.llrp_listing.specs.declared.outcome.Verdict.{Verdict}
use Rattle.llrp_sides.specs.declared.stamp.Stamp.{Stamp}
use Rattle.llrp_sides.specs.declared.stretch.Stretch.{Stretch}
use Rattle.llrp_sides.specs.declared.side.Side.{Side}
use Rattle.llrp_sides.specs.Calls.Firsts.{first_of, is_syn}
use Rattle.llrp_sides.specs.Calls.Blocks.{AreBlocks}
use Rattle.llrp_sides.specs.Calls.Sides.{CameAt, EndsSide, Gathers, HasNoneFrom, IsNear, MayCome, StartsAt, TakesSegment, with_piece}
use Rattle.llrp_sides.specs.Calls.Stretches.{EndsWith, Lists, Stands}
use Rattle.llrp_sides.specs.Calls.Verdicts.{says_lawful}
use Rattle.llrp_sides.specs.Private.Sides.{HasNoMore, IsBegun, ListsNothing, Puts, TakesOctets, TakesOut}

-- an error that is named otherwise
pub on_ok_of : {T E F : Type 0} (P : Type 0) (r : Result T E) (o : Result T F) → IfOk r (λ value. o ≡ Ok value) → OnOk o P → OnOk r P
on_ok_of {T} {E} {F} P (Ok value) o is h = subst (λ (x : Result T F). OnOk x P) is h
on_ok_of P (Err error) o is h = tt

no_octets : (stamp : Stamp) (bytes listing : List ℕ) (s : Stretch) (t : List ℕ) → Stands s bytes listing → Lists stamp [] bytes listing s t t
no_octets stamp bytes listing s t stands = record {
  more = [];
  stands = subst (λ (x : List ℕ). Stands s x (listing ++ [])) (sym (append-nil bytes)) (subst (λ (x : List ℕ). Stands s bytes x) (sym (append-nil listing)) stands);
  blocks = ([], refl, sym (append-nil t));
}

-- ---- a segment

pub puts_none : (stamp : Stamp) (sequence : ℕ) (octets : List ℕ) (reassembly : Reassembly) (side : Side) (t : List ℕ) → octets ≡ [] → Puts stamp sequence octets reassembly reassembly side side t t
puts_none stamp sequence octets reassembly side t none = subst (λ (x : List ℕ). Puts stamp sequence x reassembly reassembly side side t t) (sym none) (λ passed near pieces start bytes listing stands lists. record {
  place = 0;
  came = tt;
  more = [];
  stands = subst (λ (x : List ℕ). StandsFor pieces start x reassembly) (sym (append-nil bytes)) stands;
  lists = no_octets stamp bytes listing side.stretch t lists;
  passed = passed;
  lawful = refl;
})

pub puts_some : (stamp : Stamp) (sequence : ℕ) (octets begun given handed : List ℕ) (took : Took) (before after : Reassembly) (old new : Side) (t0 t1 : List ℕ) → 0 < length octets → took ≡ Taken → begun ≡ [] → handed ≡ given → Takes took sequence octets before after begun given
    → (old.passed ≡ None → TakesOctets stamp handed old new t0 t1) → Puts stamp sequence octets before after old new t0 t1
puts_some stamp sequence [] begun given handed took before after old new t0 t1 some is none same t takes = absurd (omega arith)
puts_some stamp sequence (octet ∷ octets) begun given handed took before after old new t0 t1 some is none same came takes = λ passed near pieces start bytes listing stands lists.
    let k = takes passed in
    let t : Takes Taken sequence (octet ∷ octets) before after begun given = subst (λ (x : Took). Takes x sequence (octet ∷ octets) before after begun given) is came in
    let all : handed ≡ t.2 = same ∙ t.3 ∙ ap (λ (x : List ℕ). x ++ t.2) none in
    record {
      place = t.0;
      came = t.1;
      more = t.2;
      stands = t.4 pieces start bytes stands;
      lists = subst (λ (x : List ℕ). Lists stamp x bytes listing new.stretch t0 t1) all (k.lists bytes listing lists);
      passed = k.passed ∙ passed;
      lawful = k.lawful;
    }

-- it was near
pub puts_beyond : (stamp : Stamp) (sequence : ℕ) (octets begun given : List ℕ) (took : Took) (before same after : Reassembly) (old new : Side) (t0 t1 : List ℕ) → took ≡ Beyond → Takes took sequence octets before same begun given → Puts stamp sequence octets before after old new t0 t1
puts_beyond stamp sequence octets begun given took before same after old new t0 t1 is came = λ passed near pieces start bytes listing stands lists.
    let t : Takes Beyond sequence octets before same begun given = subst (λ (x : Took). Takes x sequence octets before same begun given) is came in
    let within : t.0 + length octets ≤ before.here + 65536 = near t.0 t.1 t.2 in
    let beyond : before.here + 65536 < t.0 + length octets = t.3 in
    absurd (omega arith)

stands_out : (o : Option Reassembly) (sequence : ℕ) (before : Reassembly) (pieces : List Piece) (start : ℕ) (octets : List ℕ) → TakesOut sequence o before → Gathers o pieces start octets
    → (begin : ℕ) × StartsAt o sequence start begin × StandsFor pieces begin octets before
stands_out None sequence before pieces start octets out g = (
  before.here,
  out.place,
  subst (λ (x : List ℕ). StandsFor pieces before.here x before) (sym g.1) (subst (λ (x : List Piece). StandsFor x before.here [] before) (sym g.0) out.nothing),
)
stands_out (Some other) sequence before pieces start octets out g = (start, refl, subst (λ (x : Reassembly). StandsFor pieces start octets x) (sym out) g)

near_out : (o : Option Reassembly) (segment : Segment) (before : Reassembly) (pieces : List Piece) (start : ℕ) (octets : List ℕ) → TakesOut (first_of segment) o before → Gathers o pieces start octets → MayCome o segment (start + length octets)
    → IsNear before.here (first_of segment) segment.octets.items
near_out None segment before pieces start octets out g may = λ place is ahead.
    let same : place ≡ before.here = has_one_place before.here (first_of segment) place before.here is out.place in
    absurd (omega arith)
near_out (Some other) segment before pieces start octets out g may =
    let here : before.here ≡ start + length octets = ap (λ (x : Reassembly). x.here) out ∙ g.here in
    subst (λ (n : ℕ). IsNear n (first_of segment) segment.octets.items) (sym here) may

begun_out : (o : Option Reassembly) (segment : Segment) (here : ℕ) → MayCome o segment here → IsBegun o (is_syn segment.flags)
begun_out None segment here may = may
begun_out (Some other) segment here may = tt

takes_segment : (stamp : Stamp) (segment : Segment) (old mid put new : Side) (before after : Reassembly) (t0 t1 : List ℕ) → TakesOut (first_of segment) old.reassembly before → mid.stretch ≡ old.stretch → mid.is_lawful ≡ old.is_lawful → (IsBegun old.reassembly (is_syn segment.flags) → mid.passed ≡ old.passed)
    → Puts stamp (first_of segment) segment.octets.items before after mid put t0 t1 → new.reassembly ≡ Some after → new.passed ≡ put.passed → new.stretch ≡ put.stretch → new.is_lawful ≡ put.is_lawful → TakesSegment stamp segment old new t0 t1
takes_segment stamp segment old mid put new before after t0 t1 out same mid_lawful begun puts some passed stretch put_lawful = λ pieces start octets listing holds may.
    let s = stands_out old.reassembly (first_of segment) before pieces start octets out holds.gathers in
    let stands : StandsFor pieces s.0 octets before = s.2 in
    let near = near_out old.reassembly segment before pieces start octets out holds.gathers may in
    let unpassed = begun (begun_out old.reassembly segment (start + length octets) may) ∙ holds.passed in
    let p = puts unpassed near pieces s.0 octets listing stands (subst (λ (x : Stretch). Stands x octets listing) (sym same) holds.stands) in
    record {
      begin = s.0;
      begins = s.1;
      place = p.place;
      came = subst (λ (n : ℕ). CameAt segment.octets.items n (first_of segment) p.place) stands.here p.came;
      more = p.more;
      shown = p.lists.more;
      now = record {
        gathers = subst (λ (o : Option Reassembly). Gathers o (with_piece segment.octets.items p.place pieces) s.0 (octets ++ p.more)) (sym some) p.stands;
        passed = passed ∙ p.passed;
        stands = subst (λ (x : Stretch). Stands x (octets ++ p.more) (listing ++ p.lists.more)) (sym stretch) p.lists.stands;
      };
      blocks = subst (λ (x : Stretch). AreBlocks x.form.json stamp p.lists.more t0 t1) (sym stretch) p.lists.blocks;
      lawful = put_lawful ∙ p.lawful ∙ mid_lawful;
    }

pub segment_taken : (stamp : Stamp) (segment : Segment) (first : ℕ) (octets : List ℕ) (old mid put new : Side) (before after : Reassembly) (t0 t1 : List ℕ) → first ≡ first_of segment → octets ≡ segment.octets.items → TakesOut first old.reassembly before
    → mid.stretch ≡ old.stretch → mid.is_lawful ≡ old.is_lawful → (IsBegun old.reassembly (is_syn segment.flags) → mid.passed ≡ old.passed) → Puts stamp first octets before after mid put t0 t1 → new.reassembly ≡ Some after → new.passed ≡ put.passed → new.stretch ≡ put.stretch → new.is_lawful ≡ put.is_lawful → TakesSegment stamp segment old new t0 t1
segment_taken stamp segment first octets old mid put new before after t0 t1 is_first are out same mid_lawful begun puts some passed stretch put_lawful =
    takes_segment stamp segment old mid put new before after t0 t1 (subst (λ (n : ℕ). TakesOut n old.reassembly before) is_first out) same mid_lawful begun
    (subst (λ (x : List ℕ). Puts stamp (first_of segment) x before after mid put t0 t1) are (subst (λ (n : ℕ). Puts stamp n octets before after mid put t0 t1) is_first puts)) some passed stretch put_lawful

-- ---- the end

waits_none : (at : ℕ) (pieces : List Piece) (more : List ℕ) → (more ≡ [] → ⊥) → IsRun pieces at more → octet_at pieces at ≡ None → ⊥
waits_none at pieces [] some run none = some refl
waits_none at pieces (x ∷ more) some run none =
    let place : at + 0 ≡ at = omega arith in
    let has : octet_at pieces at ≡ Some x = subst (λ (n : ℕ). octet_at pieces n ≡ Some x) place (run.has 0 (omega arith)) in
    let same : Some x ≡ None = sym has ∙ none in
    absurd (cc)

-- nothing is given up
pub no_more_waits : (lost : ℕ) (given : Option ℕ) (first old new : Reassembly) (b a : List ℕ) → given ≡ Some lost → GivesUp given old new b a → old ≡ first → HasNoMore first → ⊥
no_more_waits lost given first old new b a is gives same more =
    let g : GivesUp (Some lost) old new b a = subst (λ (o : Option ℕ). GivesUp o old new b a) is gives in
    let n : HasNoMore old = subst (λ (x : Reassembly). HasNoMore x) (sym same) more in
    let at = n.start + length n.octets + lost in
    let stands : StandsFor n.pieces at g.0 new = g.3.stands n.pieces n.start n.octets n.stands in
    waits_none at n.pieces g.0 g.2 stands.run (n.none lost)

has_no_more : (o : Option Reassembly) (pieces : List Piece) (start : ℕ) (octets : List ℕ) → Gathers o pieces start octets → HasNoneFrom pieces (start + length octets) → ForSome o HasNoMore
has_no_more o pieces start octets g none = λ reassembly is. record {
  pieces = pieces;
  start = start;
  octets = octets;
  stands = subst (λ (x : Option Reassembly). Gathers x pieces start octets) is g;
  none = none;
}

pub ends_side : (stamp : Stamp) (old mid new : Side) (verdict : Verdict) (t0 t1 t2 : List ℕ) → (ForSome old.reassembly HasNoMore → ListsNothing old mid t0 t1) → ((bytes listing : List ℕ) → Stands mid.stretch bytes listing → EndsWith stamp bytes listing verdict mid.stretch t1 t2)
    → new.is_lawful ≡ (mid.is_lawful && says_lawful verdict) → EndsSide stamp old new t0 t2
ends_side stamp old mid new verdict t0 t1 t2 nothing ends lawful = record {
  ends = λ pieces start octets listing holds none.
      let n = nothing (has_no_more old.reassembly pieces start octets holds.gathers none) in
      let e = ends octets listing (subst (λ (x : Stretch). Stands x octets listing) (sym n.stretch) holds.stands) in (
        verdict,
        subst (λ (x : Stretch). EndsWith stamp octets listing verdict x t0 t2) n.stretch (subst (λ (x : List ℕ). EndsWith stamp octets listing verdict mid.stretch x t2) n.text e),
        lawful ∙ ap (λ (b : Bool). b && says_lawful verdict) n.lawful,
      );
}

-- octets are missing
pub ends_passed : (stamp : Stamp) (old mid new : Side) (passed : ℕ) (t0 t1 t2 : List ℕ) → (ForSome old.reassembly HasNoMore → ListsNothing old mid t0 t1) → mid.passed ≡ Some passed → EndsSide stamp old new t0 t2
ends_passed stamp old mid new passed t0 t1 t2 nothing some = record {
  ends = λ pieces start octets listing holds none.
      let n = nothing (has_no_more old.reassembly pieces start octets holds.gathers none) in
      let same : Some passed ≡ None = sym some ∙ n.passed ∙ holds.passed in
      absurd (cc);
}
