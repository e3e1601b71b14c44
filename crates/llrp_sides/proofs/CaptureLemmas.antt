-- What is listed of a capture goes on after what was listed before.
use Rattle.std.proofs.Common.{◌≡◌, ℕ, Bool, true, false, ◌&&◌, List, [], ◌∷◌, ◌++◌, refl, sym, ap, subst, ◌∙◌, inl, inr, append_assoc}
use Rattle.std.specs.List.{flat_map}
use Rattle.llrp_capture.specs.declared.segment.Segment.{Segment}
use Rattle.llrp_capture.specs.declared.segment.Sender.{Sender}
use Rattle.llrp_capture.specs.declared.segment.Sender.TheVariants.{Reader, Client}
use Rattle.llrp_listing.specs.declared.outcome.Verdict.{Verdict}
use Rattle.llrp_sides.specs.declared.form.Form.{Form}
use Rattle.llrp_sides.specs.declared.session.Pair.{Pair}
use Rattle.llrp_sides.specs.declared.side.Side.{Side}
use Rattle.llrp_sides.specs.declared.stamp.Stamp.{Stamp}
use Rattle.llrp_sides.specs.declared.stretch.Stretch.{Stretch}
use Rattle.llrp_sides.specs.Calls.Blocks.{AreBlocks, stamped}
use Rattle.llrp_sides.specs.Calls.Captures.{Capture, EndAll, Goes, Runs, Takes, time_after}
use Rattle.llrp_sides.specs.Calls.Pairs.{EndsBoth, GoesTo, TakesOwn, are_lawful, is_over}
use Rattle.llrp_sides.specs.Calls.Sides.{EndsSide, TakesSegment}
use Rattle.llrp_sides.specs.Calls.Stretches.{EndsWith}

blocks_after : (done : List ℕ) (json : Bool) (stamp : Stamp) (listing text0 text1 : List ℕ) → AreBlocks json stamp listing text0 text1 → AreBlocks json stamp listing (done ++ text0) (done ++ text1)
blocks_after done json stamp listing text0 text1 b = (b.0, b.1, ap (λ (x : List ℕ). done ++ x) b.2 ∙ sym (append_assoc done text0 (flat_map (stamped json stamp) b.0)))

takes_after : (done : List ℕ) (stamp : Stamp) (segment : Segment) (old new : Side) (text0 text1 : List ℕ) → TakesSegment stamp segment old new text0 text1 → TakesSegment stamp segment old new (done ++ text0) (done ++ text1)
takes_after done stamp segment old new text0 text1 takes = λ pieces start octets listing holds may.
    let t = takes pieces start octets listing holds may in
    record {
      begin = t.begin;
      begins = t.begins;
      place = t.place;
      came = t.came;
      more = t.more;
      shown = t.shown;
      now = t.now;
      blocks = blocks_after done new.stretch.form.json stamp t.shown text0 text1 t.blocks;
      lawful = t.lawful;
    }

ends_with_after : (done : List ℕ) (stamp : Stamp) (bytes listing : List ℕ) (verdict : Verdict) (s : Stretch) (text0 text1 : List ℕ) → EndsWith stamp bytes listing verdict s text0 text1 → EndsWith stamp bytes listing verdict s (done ++ text0) (done ++ text1)
ends_with_after done stamp bytes listing verdict s text0 text1 e = record {
  items = e.items;
  end = e.end;
  more = e.more;
  are = e.are;
  is = e.is;
  blocks = blocks_after done s.form.json stamp e.more text0 text1 e.blocks;
  verdict_is = e.verdict_is;
}

ends_after : (done : List ℕ) (stamp : Stamp) (old new : Side) (text0 text1 : List ℕ) → EndsSide stamp old new text0 text1 → EndsSide stamp old new (done ++ text0) (done ++ text1)
ends_after done stamp old new text0 text1 ends = record {
  ends = λ pieces start octets listing holds none.
      let e = ends.ends pieces start octets listing holds none in
      (e.0, ends_with_after done stamp octets listing e.0 old.stretch text0 text1 e.1, e.2);
}

own_after : (done : List ℕ) (segment : Segment) (old new : Pair) (text0 text1 : List ℕ) → TakesOwn segment old new text0 text1 → TakesOwn segment old new (done ++ text0) (done ++ text1)
own_after done segment old new text0 text1 t = record { stamp = t.stamp; is = t.is; goes = on segment.from t.goes }
  where
    on : (from : Sender) → GoesTo from t.stamp segment old new text0 text1 → GoesTo from t.stamp segment old new (done ++ text0) (done ++ text1)
    on Reader g = (takes_after done t.stamp segment old.reader new.reader text0 text1 g.0, g.1)
    on Client g = (takes_after done t.stamp segment old.client new.client text0 text1 g.0, g.1)

both_after : (done time : List ℕ) (old new : Pair) (text0 text1 : List ℕ) → EndsBoth time old new text0 text1 → EndsBoth time old new (done ++ text0) (done ++ text1)
both_after done time old new text0 text1 e = record {
  between = done ++ e.between;
  first = e.first;
  first_is = e.first_is;
  client = ends_after done e.first old.client new.client text0 e.between e.client;
  second = e.second;
  second_is = e.second_is;
  reader = ends_after done e.second old.reader new.reader e.between text1 e.reader;
}

-- what came, where this was listed before
abbrev pub with_front : List ℕ → Capture → Capture
with_front done capture = record { pairs = capture.pairs; is_lawful = capture.is_lawful; text = done ++ capture.text }

goes_after : (done : List ℕ) (over : Bool) (time : List ℕ) (before : List Pair) (now : Pair) (after : List Pair) (lawful : Bool) (text : List ℕ) (new : Capture) → Goes over time before now after lawful text new → Goes over time before now after lawful (done ++ text) (with_front done new)
goes_after done false time before now after lawful text new g = ap (with_front done) g
goes_after done true time before now after lawful text new g = (g.0, both_after done time now g.0 text new.text g.1, g.2, g.3)

pub step_after : (done : List ℕ) (form : Form) (segment : Segment) (old new : Capture) → Takes form segment old new → Takes form segment (with_front done old) (with_front done new)
step_after done form segment old new (inl p) = inl (record { none = p.none; may_not = p.may_not; same = ap (with_front done) p.same })
step_after done form segment old new (inr t) = inr (record {
  before = t.before;
  pair = t.pair;
  after = t.after;
  finds = t.finds;
  now = t.now;
  text = done ++ t.text;
  takes = own_after done segment t.pair t.now old.text t.text t.takes;
  goes = goes_after done (is_over segment t.now) segment.time.now t.before t.now t.after old.is_lawful t.text new t.goes;
})

pub all_after : (done time : List ℕ) (pairs : List Pair) (was is : Bool) (text0 text1 : List ℕ) → EndAll time pairs was is text0 text1 → EndAll time pairs was is (done ++ text0) (done ++ text1)
all_after done time [] was is text0 text1 e = (e.0, ap (λ (x : List ℕ). done ++ x) e.1)
all_after done time (pair ∷ pairs) was is text0 text1 e = (
  e.0,
  done ++ e.1,
  both_after done time pair e.0 text0 e.1 e.2,
  all_after done time pairs (was && are_lawful e.0) is e.1 text1 e.3,
)

-- ---- a segment more

pub runs_on : (form : Form) (segments : List Segment) (segment : Segment) (old mid new : Capture) → Runs form segments old mid → Takes form segment mid new → Runs form (segments ++ segment ∷ []) old new
runs_on form [] segment old mid new same takes = (new, subst (λ (x : Capture). Takes form segment x new) same takes, refl)
runs_on form (first ∷ segments) segment old mid new r takes = (r.0, r.1, runs_on form segments segment r.0 mid new r.2 takes)

pub time_on : (time : List ℕ) (segments : List Segment) (segment : Segment) → time_after time (segments ++ segment ∷ []) ≡ segment.time.now
time_on time [] segment = refl
time_on time (first ∷ segments) segment = time_on first.time.now segments segment
