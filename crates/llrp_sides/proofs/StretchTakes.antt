-- Octets that come, and the end of them.
use Rattle.std.proofs.Common.{◌≡◌, ◌⊎◌, inl, inr, ℕ, ◌+◌, ◌<◌, ◌≤◌, ◌&&◌, Bool, true, false, List, [], ◌∷◌, ◌++◌, length, length-append, take, drop, arith, Option, Some, None, refl, sym, ap, subst, ◌∙◌, append_assoc}
use Rattle.std.specs.List.{flat_map, list_all}
use Rattle.std.proofs.lemmas.List.{append-nil}
use Rattle.llrp_schema.specs.declared.kinds.KindSet.{KindSet}
use Rattle.llrp_stream.specs.declared.item.Item.{Item}
use Rattle.llrp_stream.specs.declared.item.End.{End}
use Rattle.llrp_stream.specs.declared.item.End.TheVariants.{Broken, Clean, Dead, Rest}
use Rattle.llrp_stream.specs.Calls.Decoding.{StandsIn}
use Rattle.llrp_stream.specs.Cuts.{Breaks, EndsStream, IsPartial, joined, length_field}
use Rattle.llrp_stream.specs.Decoding.{DecoderState}
use Rattle.llrp_stream.specs.Items.{ItemsIn}
use Rattle.llrp_stream.proofs.FrontLemmas.{length_field-append}
use Rattle.llrp_listing.specs.declared.outcome.Verdict.{Verdict}
use Rattle.llrp_listing.specs.Show.{verdict_of}
use Rattle.llrp_listing.specs.StreamListing.{IsStreamText, is_clean, is_lawful, is_message}
use Rattle.llrp_sides.specs.declared.form.Form.{Form}
use Rattle.llrp_sides.specs.declared.stamp.Stamp.{Stamp}
use Rattle.llrp_sides.specs.declared.stretch.Stretch.{Stretch}
use Rattle.llrp_sides.specs.Calls.Blocks.{IsShown, end_shown, stamped}
use Rattle.llrp_sides.specs.Calls.Stretches.{EndsWith, HasBroken, Holds, HoldsIn, Lists, ListsFrames, Stands}
use Rattle.llrp_sides.specs.Private.Stretches.{IsEnding, ListsRest, Passes, PassesTo, TakesAll, TakesFrames, end_blocks}
use Rattle.llrp_sides.proofs.StretchLemmas.{at_end, no_end}
use Rattle.llrp_sides.proofs.StretchRuns.{Before, then_frames, then_nothing, then_past}

-- ---- octets that come

-- after a break
pub still_broken : (stamp : Stamp) (octets bytes listing : List ℕ) (s : Stretch) (t : List ℕ) → s.is_broken ≡ true → Stands s bytes listing → Lists stamp octets bytes listing s t t
still_broken stamp octets bytes listing s t broken (inl h) = let whole : s.is_broken ≡ false = h.whole in absurd (cc)
still_broken stamp octets bytes listing s t broken (inr h) = record {
  more = [];
  stands = inr (record {
    broken = broken;
    items = h.items;
    are = λ later. subst (λ (x : List ℕ). ItemsIn s.form.set s.form.limit x h.items Broken) (sym (append_assoc bytes octets later)) (h.are (octets ++ later));
    is = subst (λ (x : List ℕ). IsStreamText (IsShown s.form.json) (end_shown s.form.json) h.items Broken x) (sym (append-nil listing)) h.is;
  });
  blocks = ([], refl, sym (append-nil t));
}

before : (s : Stretch) (bytes listing : List ℕ) → (h : ListsFrames s bytes listing) → Before s.form bytes listing h.items h.front
before s bytes listing h = record { so_far = h.so_far; texts = h.texts }

-- after a front of a frame that is held
pub takes_held : (stamp : Stamp) (octets all bytes listing : List ℕ) (old mid new : Stretch) (t0 t1 : List ℕ) → old.is_broken ≡ false → old.long ≡ None → mid.form ≡ old.form → mid.is_lawful ≡ old.is_lawful → mid.is_broken ≡ old.is_broken → mid.long ≡ None
    → all ≡ old.held.items ++ octets → TakesFrames stamp all mid new t0 t1 → Stands old bytes listing → Lists stamp octets bytes listing new t0 t1
takes_held stamp octets all bytes listing old mid new t0 t1 whole none form lawful broken long are takes (inl h) =
    let holds : HoldsIn old.form None old.held.items h.front = subst (λ (o : Option DecoderState). HoldsIn old.form o old.held.items h.front) none h.holds in
    let cut : all ≡ h.front ++ octets = are ∙ ap (λ (x : List ℕ). x ++ octets) (sym holds.0) in
    let ran : TakesAll stamp (h.front ++ octets) mid new t0 t1 = subst (λ (x : List ℕ). TakesAll stamp x mid new t0 t1) cut (takes long (broken ∙ whole)) in
    then_frames stamp old.form bytes listing h.front octets h.items mid new t0 t1 (before old bytes listing h) form (lawful ∙ h.lawful) ran
takes_held stamp octets all bytes listing old mid new t0 t1 whole none form lawful broken long are takes (inr h) = let is : old.is_broken ≡ true = h.broken in absurd (cc)

-- a decoder reads past the frame
passes_to : (stamp : Stamp) (decoder : DecoderState) (octets bytes listing : List ℕ) (used : Option ℕ) (old mid new : Stretch) (t0 t1 : List ℕ) → old.long ≡ Some decoder → mid.form ≡ old.form → Passes stamp decoder octets used mid new t0 t1
    → (h : ListsFrames old bytes listing) → PassesTo stamp h.front octets used mid new t0 t1 × (6 ≤ length (h.front ++ octets)) × (old.form.limit < length_field (h.front ++ octets))
passes_to stamp decoder octets bytes listing used old mid new t0 t1 some form passes h =
    let holds : HoldsIn old.form (Some decoder) old.held.items h.front = subst (λ (o : Option DecoderState). HoldsIn old.form o old.held.items h.front) some h.holds in
    let first : 6 ≤ length h.front = holds.2 in
    let long : old.form.limit < length_field h.front = holds.3 in
    let six : 6 ≤ length (h.front ++ octets) = omega (arith, length-append h.front octets) in
    let same : length_field (h.front ++ octets) ≡ length_field h.front = length_field-append h.front octets first in
    let above : old.form.limit < length_field (h.front ++ octets) = omega arith in
    (passes h.front (subst (λ (x : Form). StandsIn x.set decoder h.front) (sym form) holds.0) (subst (λ (x : Form). decoder.limit ≡ x.limit) (sym form) holds.1) six (subst (λ (x : Form). x.limit < length_field (h.front ++ octets)) (sym form) above), six, above)

pub takes_nothing : (stamp : Stamp) (decoder : DecoderState) (octets bytes listing : List ℕ) (got : Option ℕ) (old mid new : Stretch) (t0 t1 : List ℕ) → old.is_broken ≡ false → old.long ≡ Some decoder → mid.form ≡ old.form → mid.is_lawful ≡ old.is_lawful → mid.is_broken ≡ old.is_broken
    → got ≡ None → Passes stamp decoder octets got mid new t0 t1 → Stands old bytes listing → Lists stamp octets bytes listing new t0 t1
takes_nothing stamp decoder octets bytes listing got old mid new t0 t1 whole some form lawful broken is_got passes (inl h) =
    let went : Passes stamp decoder octets None mid new t0 t1 = subst (λ (o : Option ℕ). Passes stamp decoder octets o mid new t0 t1) is_got passes in
    let p = passes_to stamp decoder octets bytes listing None old mid new t0 t1 some form went h in
    let to : PassesTo stamp h.front octets None mid new t0 t1 = p.0 in
    then_nothing stamp old.form bytes listing h.front octets h.items mid new to.0 t0 t1 (before old bytes listing h) form (lawful ∙ h.lawful) (broken ∙ whole) p.1 p.2 to.1 to.2 to.3 to.4
takes_nothing stamp decoder octets bytes listing got old mid new t0 t1 whole some form lawful broken is_got passes (inr h) = let is : old.is_broken ≡ true = h.broken in absurd (cc)

pub takes_past : (stamp : Stamp) (decoder : DecoderState) (octets later bytes listing : List ℕ) (used : ℕ) (got : Option ℕ) (old mid past new : Stretch) (t0 t1 t2 : List ℕ) → old.is_broken ≡ false → old.long ≡ Some decoder → mid.form ≡ old.form → mid.is_lawful ≡ old.is_lawful
    → mid.is_broken ≡ old.is_broken → mid.long ≡ None → got ≡ Some used → Passes stamp decoder octets got mid past t0 t1 → later ≡ drop used octets → TakesFrames stamp later past new t1 t2 → Stands old bytes listing → Lists stamp octets bytes listing new t0 t2
takes_past stamp decoder octets later bytes listing used got old mid past new t0 t1 t2 whole some form lawful broken long is_got passes back takes (inl h) =
    let went : Passes stamp decoder octets (Some used) mid past t0 t1 = subst (λ (o : Option ℕ). Passes stamp decoder octets o mid past t0 t1) is_got passes in
    let p = passes_to stamp decoder octets bytes listing (Some used) old mid past t0 t1 some form went h in
    let to : PassesTo stamp h.front octets (Some used) mid past t0 t1 = p.0 in
    let same = to.1.same in
    let all : TakesAll stamp later past new t1 t2 = takes (ap (λ (x : Stretch). x.long) same ∙ long) (ap (λ (x : Stretch). x.is_broken) same ∙ broken ∙ whole) in
    then_past stamp old.form bytes listing h.front octets later used h.items mid past new t0 t1 t2 (before old bytes listing h) form (lawful ∙ h.lawful) back to.0 to.1 all
takes_past stamp decoder octets later bytes listing used got old mid past new t0 t1 t2 whole some form lawful broken long is_got passes back takes (inr h) = let is : old.is_broken ≡ true = h.broken in absurd (cc)

-- ---- the end

shown_at_end : (json : Bool) (front : List ℕ) (end : End) → IsPartial front → EndsStream front end → joined (end_blocks json end) ≡ end_shown json end
shown_at_end json front Clean p e = sym (no_end json)
shown_at_end json front (Rest count) p e = append-nil (end_shown json (Rest count))
shown_at_end json front Broken (inl short) e = let six : 6 ≤ length front = e.0 in absurd (omega arith)
shown_at_end json front Broken (inr long) e = let below : length_field front < 10 = e.1 in let ten : 10 ≤ length_field front = long.0 in absurd (omega arith)
shown_at_end json front Dead p e = absurd e

lawful_at : (items : List Item) (lawful : Bool) (end : End) → lawful ≡ list_all is_message items → (lawful && is_clean end) ≡ is_lawful items end
unfolding is_lawful
lawful_at items lawful end e = ap (λ (x : Bool). x && is_clean end) e

ends_frames : (s : Stretch) (bytes listing : List ℕ) (end : End) (h : ListsFrames s bytes listing) → IsPartial h.front → EndsStream h.front end → IsEnding s bytes listing end
ends_frames s bytes listing end h partial ends = record {
  items = h.items;
  are = at_end s.form.set s.form.limit bytes h.front h.items end h.so_far ends;
  is = record { front = listing; lines = h.texts; text_is = ap (λ (x : List ℕ). listing ++ x) (shown_at_end s.form.json h.front end partial ends) };
  lawful = lawful_at h.items s.is_lawful end h.lawful;
}

false_both : (a b : Bool) → (a && false) ≡ (b && false)
false_both true true = refl
false_both true false = refl
false_both false true = refl
false_both false false = refl

none_lawful : (items : List Item) (lawful : Bool) → (lawful && is_clean Broken) ≡ is_lawful items Broken
unfolding is_lawful
none_lawful items lawful = false_both lawful (list_all is_message items)

pub ends_broken : (s : Stretch) (bytes listing : List ℕ) → s.is_broken ≡ true → Stands s bytes listing → IsEnding s bytes listing Broken
ends_broken s bytes listing broken (inl h) = let whole : s.is_broken ≡ false = h.whole in absurd (cc)
ends_broken s bytes listing broken (inr h) = record {
  items = h.items;
  are = subst (λ (x : List ℕ). ItemsIn s.form.set s.form.limit x h.items Broken) (append-nil bytes) (h.are []);
  is = subst (λ (x : List ℕ). IsStreamText (IsShown s.form.json) (end_shown s.form.json) h.items Broken x) (sym (append-nil listing)) h.is;
  lawful = none_lawful h.items s.is_lawful;
}

pub ends_long : (s : Stretch) (bytes listing : List ℕ) (decoder : DecoderState) (end : End) → s.is_broken ≡ false → s.long ≡ Some decoder → ((p : KindSet) (front : List ℕ) → StandsIn p decoder front → EndsStream front end) → Stands s bytes listing
    → IsEnding s bytes listing end
ends_long s bytes listing decoder end whole some finishes (inl h) =
    let holds : HoldsIn s.form (Some decoder) s.held.items h.front = subst (λ (o : Option DecoderState). HoldsIn s.form o s.held.items h.front) some h.holds in
    ends_frames s bytes listing end h holds.0.unfinished (finishes s.form.set h.front holds.0)
ends_long s bytes listing decoder end whole some finishes (inr h) = let is : s.is_broken ≡ true = h.broken in absurd (cc)

pub ends_held : (s : Stretch) (bytes listing : List ℕ) (end : End) → s.is_broken ≡ false → s.long ≡ None → ((front : List ℕ) → front ≡ s.held.items → IsPartial front → EndsStream front end) → Stands s bytes listing → IsEnding s bytes listing end
ends_held s bytes listing end whole none ends (inl h) =
    let holds : HoldsIn s.form None s.held.items h.front = subst (λ (o : Option DecoderState). HoldsIn s.form o s.held.items h.front) none h.holds in
    ends_frames s bytes listing end h holds.1 (ends h.front holds.0 holds.1)
ends_held s bytes listing end whole none ends (inr h) = let is : s.is_broken ≡ true = h.broken in absurd (cc)

pub no_octets : (octets : List ℕ) → length octets ≡ 0 → octets ≡ []
no_octets [] none = refl
no_octets (octet ∷ octets) none = absurd (omega arith)

pub ends_with : (stamp : Stamp) (bytes listing : List ℕ) (verdict : Verdict) (end : End) (s : Stretch) (t0 t1 : List ℕ) → ((bytes listing : List ℕ) → Stands s bytes listing → IsEnding s bytes listing end) → ListsRest stamp end s t0 t1
    → verdict ≡ verdict_of (s.is_lawful && is_clean end) → Stands s bytes listing → EndsWith stamp bytes listing verdict s t0 t1
ends_with stamp bytes listing verdict end s t0 t1 ending rest is stands =
    let e = ending bytes listing stands in
    record {
      items = e.items;
      end = end;
      more = joined (end_blocks s.form.json end);
      are = e.are;
      is = e.is;
      blocks = (end_blocks s.form.json end, refl, rest);
      verdict_is = is ∙ ap verdict_of e.lawful;
    }
