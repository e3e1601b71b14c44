-- Whole frames at the front of a stream, its first frame, and what is listed of them.
use Rattle.std.proofs.Common.{◌≡◌, ℕ, ◌+◌, ◌-◌, ◌≤◌, Bool, true, false, List, [], ◌∷◌, ◌++◌, length, take, drop, refl, sym, ap, subst, ◌∙◌, arith}
use Rattle.std.proofs.Math.Seq.{take-add}
use Rattle.std.proofs.lemmas.List.{append-nil, take-append-drop, take_all, length-take-le, length-drop}
use Rattle.llrp_schema.specs.declared.kinds.KindSet.{KindSet}
use Rattle.llrp_stream.specs.declared.item.End.{End}
use Rattle.llrp_stream.specs.declared.item.End.TheVariants as at_end
use Rattle.llrp_stream.specs.Cuts.{Breaks, Cuts, IsFrame, joined, length_field}
use Rattle.llrp_stream.specs.Items.{ItemsIn}
use Rattle.llrp_stream.specs.Calls.Lengths.{IsLength}
use Rattle.llrp_stream.proofs.FrontLemmas.{length_field-append}
use Rattle.llrp_stream.proofs.Unique.{one_cut}
use Rattle.llrp_tree.specs.declared.TheConstants.{MAX_LIMIT}
use Rattle.llrp_listing.specs.Show.{verdict_of}
use Rattle.llrp_listing.specs.StreamListing.{IsStreamText, is_lawful}
use Rattle.llrp_c.specs.declared.status.Status.{Status}
use Rattle.llrp_c.specs.Private.Frames.{AreFrames, IsFirst, IsLeft}
use Rattle.llrp_c.specs.Listings.{IsListing, ItemTextIn, end_text_in, lawful_status}
use Rattle.llrp_c.specs.Next.{IsNext}
use Rattle.llrp_c.specs.Private.Parts.{IsPart, listed_status}
use Rattle.llrp_stream.proofs.RunLemmas.{each_push, joined_push}

-- a length field and as many octets are a frame
pub whole_frame : (octets : ℕ) (stream : List ℕ) → IsLength stream octets → octets ≤ length stream → IsFrame (take octets stream)
whole_frame octets stream is le =
    let count : length (take octets stream) ≡ octets = length-take-le octets stream le in
    let first : 6 ≤ length (take octets stream) = omega (arith, is.ten, count) in
    let whole : length_field (take octets stream) ≡ length_field stream = sym (length_field-append (take octets stream) (drop octets stream) first) ∙ ap length_field (take-append-drop octets stream) in
    record { header = omega (arith, is.ten, count); whole = whole ∙ sym is.octets_are ∙ sym count }

-- one frame more
more_frames : (stream : List ℕ) (octets more : ℕ) → AreFrames stream octets → more ≤ length (drop octets stream) → IsFrame (take more (drop octets stream)) → AreFrames stream (octets + more)
more_frames stream octets more are le is = record {
  within = omega (arith, are.within, le, length-drop octets stream);
  frames = are.frames ++ (take more (drop octets stream) ∷ []);
  each = each_push IsFrame are.frames (take more (drop octets stream)) are.each is;
  joined_are = take-add octets more stream ∙ ap (λ (x : List ℕ). x ++ take more (drop octets stream)) are.joined_are ∙ sym (joined_push are.frames (take more (drop octets stream)));
}

-- one frame more, where what is left of a stream begins with its length
pub goes_on : (stream : List ℕ) (octets more : ℕ) → AreFrames stream octets → IsLength (take (length stream - octets) (drop octets stream)) more → more ≤ length (take (length stream - octets) (drop octets stream)) → AreFrames stream (octets + more)
goes_on stream octets more are is le =
    let left = drop octets stream in
    let all : take (length stream - octets) left ≡ left = take_all (length stream - octets) left (omega (arith, length-drop octets stream)) in
    let here = subst (λ (x : List ℕ). IsLength x more × (more ≤ length x)) all (is, le) in
    more_frames stream octets more are here.1 (whole_frame more left here.0 here.1)

-- ---- the listing of whole frames

clean_status : (b : Bool) → listed_status false (verdict_of b) ≡ lawful_status b
clean_status true = refl
clean_status false = refl

-- the frames of a stream that does not break after them end clean
ends_clean : (stream piece : List ℕ) (octets used : ℕ) (frames : List (List ℕ)) (end : End) → AreFrames stream octets → used ≡ octets → piece ≡ take used stream → Cuts piece frames end → end ≡ at_end.Clean
ends_clean stream piece octets used frames end are is e cut =
    let whole : piece ≡ joined are.frames ++ [] = e ∙ ap (λ (n : ℕ). take n stream) is ∙ are.joined_are ∙ sym (append-nil (joined are.frames)) in
    let clean : Cuts piece are.frames at_end.Clean = record { tail = []; whole = whole; each = are.each; ends = refl } in
    (one_cut piece frames are.frames end at_end.Clean cut clean).1

-- a stream that breaks after its frames ends broken
ends_broken : (stream piece : List ℕ) (octets used : ℕ) (frames : List (List ℕ)) (end : End) → AreFrames stream octets → IsLeft true (drop octets stream) → used ≡ length stream → piece ≡ take used stream → Cuts piece frames end → end ≡ at_end.Broken
ends_broken stream piece octets used frames end are left is e cut =
    let all : piece ≡ stream = e ∙ ap (λ (n : ℕ). take n stream) is ∙ take_all (length stream) stream (omega arith) in
    let whole : piece ≡ joined are.frames ++ drop octets stream = all ∙ sym (take-append-drop octets stream) ∙ ap (λ (x : List ℕ). x ++ drop octets stream) are.joined_are in
    let broken : Cuts piece are.frames at_end.Broken = record { tail = drop octets stream; whole = whole; each = are.each; ends = left } in
    (one_cut piece frames are.frames end at_end.Broken cut broken).1

-- the listing of the octets that are listed is that of the whole frames
pub listed : {json : Bool} {p : KindSet} (broken : Bool) (stream : List ℕ) (octets used : ℕ) (text : List ℕ) (status : Status) → AreFrames stream octets → IsLeft broken (drop octets stream)
    → IsPart json p stream broken octets used text status → IsListing json p stream used text status
listed {json} {p} false stream octets used text status are left part =
    let has = part.has in
    let clean = ends_clean stream (take used stream) octets used has.are.frames has.end are part.used_is refl has.are.cut in
    let said : part.verdict ≡ verdict_of (is_lawful has.items at_end.Clean) = has.verdict_is ∙ ap (λ (x : End). verdict_of (is_lawful has.items x)) clean in
    record {
      within = omega (arith, are.within, part.used_is);
      items = has.items;
      end = at_end.Clean;
      are = subst (λ (x : End). ItemsIn p MAX_LIMIT (take used stream) has.items x) clean has.are;
      ends = (subst (λ (n : ℕ). IsLeft false (drop n stream)) (sym part.used_is) left, part.ended_is ∙ ap (listed_status false) said ∙ clean_status (is_lawful has.items at_end.Clean));
      is = subst (λ (x : End). IsStreamText (ItemTextIn json) (end_text_in json) has.items x text) clean has.is;
    }
listed {json} {p} true stream octets used text status are left part =
    let has = part.has in
    let broken = ends_broken stream (take used stream) octets used has.are.frames has.end are left part.used_is refl has.are.cut in
    record {
      within = omega (arith, part.used_is);
      items = has.items;
      end = at_end.Broken;
      are = subst (λ (x : End). ItemsIn p MAX_LIMIT (take used stream) has.items x) broken has.are;
      ends = (part.used_is, part.ended_is);
      is = subst (λ (x : End). IsStreamText (ItemTextIn json) (end_text_in json) has.items x text) broken has.is;
    }

-- ---- the first frame

-- the first frame by itself
one_frame : (stream : List ℕ) (octets : ℕ) → octets ≤ length stream → IsFrame (take octets stream) → AreFrames stream octets
one_frame stream octets le is = record { within = le; frames = take octets stream ∷ []; each = (is, tt); joined_are = sym (append-nil (take octets stream)) }

-- no frame
no_frame : (stream : List ℕ) (octets : ℕ) → octets ≡ 0 → AreFrames stream octets
no_frame stream octets none = record { within = omega (arith, none); frames = []; each = tt; joined_are = ap (λ (n : ℕ). take n stream) none }

-- what is listed of the first frame is that of it alone
pub next_listed : {json : Bool} {p : KindSet} (broken : Bool) (stream : List ℕ) (octets used : ℕ) (text : List ℕ) (status : Status) → IsFirst stream octets broken
    → IsPart json p stream broken octets used text status → IsNext json p stream used text status
next_listed {json} {p} false stream octets used text status first part =
    let has = part.has in
    let clean = ends_clean stream (take used stream) octets used has.are.frames has.end (one_frame stream octets first.0 first.1) part.used_is refl has.are.cut in
    let said : part.verdict ≡ verdict_of (is_lawful has.items at_end.Clean) = has.verdict_is ∙ ap (λ (x : End). verdict_of (is_lawful has.items x)) clean in
    record {
      within = omega (arith, first.0, part.used_is);
      items = has.items;
      end = at_end.Clean;
      are = subst (λ (x : End). ItemsIn p MAX_LIMIT (take used stream) has.items x) clean has.are;
      one = (subst (λ (n : ℕ). IsFrame (take n stream)) (sym part.used_is) first.1, part.ended_is ∙ ap (listed_status false) said ∙ clean_status (is_lawful has.items at_end.Clean));
      is = subst (λ (x : End). IsStreamText (ItemTextIn json) (end_text_in json) has.items x text) clean has.is;
    }
next_listed {json} {p} true stream octets used text status first part =
    let has = part.has in
    let left : Breaks (drop octets stream) = subst (λ (n : ℕ). Breaks (drop n stream)) (sym first.0) first.1 in
    let broken = ends_broken stream (take used stream) octets used has.are.frames has.end (no_frame stream octets first.0) left part.used_is refl has.are.cut in
    record {
      within = omega (arith, part.used_is);
      items = has.items;
      end = at_end.Broken;
      are = subst (λ (x : End). ItemsIn p MAX_LIMIT (take used stream) has.items x) broken has.are;
      one = (first.1, part.used_is, part.ended_is);
      is = subst (λ (x : End). IsStreamText (ItemTextIn json) (end_text_in json) has.items x text) broken has.is;
    }
