-- A field, as a step of the open tree that is read.
use Rattle.std.proofs.Common.{◌≡◌, ℕ, ◌+◌, ◌-◌, ◌*◌, ◌<◌, ◌≤◌, inl, Bool, true, List, [], ◌∷◌, ◌++◌, length, drop, refl, sym, ap, subst, ◌∙◌, arith, length-drop}
use Rattle.std.proofs.lemmas.Bool.{lt-leb}
use Rattle.tag_bits.specs.Digits.{digits_of_bytes}
use Rattle.llrp_schema.specs.declared.kinds.Kind.{Kind}
use Rattle.llrp_schema.specs.Schema.{FieldRule, fields_of}
use Rattle.llrp_tree.specs.declared.fault.FrameErr.{FrameErr}
use Rattle.llrp_tree.specs.declared.fault.FrameErr.TheVariants.{Bad}
use Rattle.llrp_tree.specs.declared.fault.Reason.TheVariants.{Short}
use Rattle.llrp_tree.specs.OpenTree.{Begun, kind_of_head, in_range}
use Rattle.llrp_tree.specs.FirstFault.{number, field_checks}
use Rattle.llrp_tree.specs.Calls.Standing.{IsAt, leading}
use Rattle.llrp_tree.specs.Private.Standing.{FailsFirst}
use Rattle.llrp_tree.proofs.ReadingLemmas.{field_grows}
use Rattle.llrp_stream.specs.declared.engine.body_reader.BodyReader.{BodyReader}
use Rattle.llrp_stream.specs.declared.engine.body_reader.Stage.{Stage}
use Rattle.llrp_stream.specs.declared.engine.body_reader.Stage.TheVariants.{Leading}
use Rattle.llrp_stream.specs.Calls.Front.{Reaches}
use Rattle.llrp_stream.specs.Private.Front.{TellsFor}
use Rattle.llrp_stream.specs.Calls.Received.{IsNextField}
use Rattle.llrp_stream.specs.Calls.Reading.{HasReadTo, bit_of, IsAtStage, IsLeading}
use Rattle.llrp_stream.proofs.Reached.{stands_in, reaches_in, seen}
use Rattle.llrp_stream.specs.Calls.Front.{AreDeciding, IsUndecided}
use Rattle.llrp_stream.proofs.WaitLemmas.{field_decided, field_waits}
use Rattle.llrp_stream.proofs.FaultTrees.{decided_for, field_tells_at}

pub short_fails : (r : FieldRule) (at stop : ℕ) (rest : List Bool) (e : FrameErr) → stop < at + r.width → e ≡ Bad (record { bit = at; reason = Short }) → FailsFirst (field_checks r at stop rest) e
short_fails r at stop rest e lt told = subst (FailsFirst (field_checks r at stop rest)) (sym told) (rw (lt-leb (at + r.width) stop lt) refl)

module _ (r : BodyReader) (front : List ℕ) (b : Begun) (outer : List Begun) (octets : List ℕ) (next : ℕ) (rule : FieldRule) (others : List FieldRule)
    (rd : HasReadTo r front b outer) (s : r.stage ≡ Leading next) (d : drop r.at front ≡ octets) (nx : drop next (fields_of r.top.kind) ≡ rule ∷ others) where
  abbrev pub staged : IsLeading next r front b outer
  staged = subst (λ (x : Stage). IsAtStage x r front b outer) s rd.stage

  pub next_is : drop (length b.fields) (fields_of r.top.kind) ≡ rule ∷ others
  next_is = ap (λ (n : ℕ). drop n (fields_of r.top.kind)) staged.count ∙ nx

  pub is_next_field : IsNextField (b ∷ outer) rule
  is_next_field = record { node = b; outer = outer; others = others; tree_is = refl; next = ap (λ (k : Kind). drop (length b.fields) (fields_of k)) rd.level.kind ∙ next_is; untailed = ap (λ (x : Begun). x.tail) staged.bare }

  stands_leading : (more : List ℕ) → length (front ++ more) ≡ r.octets → IsAt (digits_of_bytes (front ++ more)) (leading b.head b.stop b.fields ∷ outer) (bit_of r)
  stands_leading more e = subst (λ (x : Begun). IsAt (digits_of_bytes (front ++ more)) (x ∷ outer) (bit_of r)) staged.bare (stands_in front more r.octets (b ∷ outer) (bit_of r) staged.reaches e)

  field_decides : (bit_of r + rule.width ≤ 8 * r.top.stop → r.bit + rule.width ≤ 8 * length octets) → AreDeciding (8 * length front) front r.octets (b ∷ outer)
  field_decides fits =
      let lo : length octets ≡ length front - r.at = sym (ap (λ (x : List ℕ). length x) d) ∙ length-drop r.at front in
      let P : Begun → Type 0 = λ x. AreDeciding (8 * length front) front r.octets (x ∷ outer) in
      let reach : Reaches r.set front r.octets (leading b.head b.stop b.fields ∷ outer) (bit_of r) = subst (λ (x : Begun). Reaches r.set front r.octets (x ∷ outer) (bit_of r)) staged.bare staged.reaches in
      let nx2 : drop (length b.fields) (fields_of (kind_of_head b.head)) ≡ rule ∷ others = ap (λ (k : Kind). drop (length b.fields) (fields_of k)) rd.level.kind ∙ next_is in
      subst P (sym staged.bare) (field_decided front r.octets b.head b.stop b.fields outer (bit_of r) rule others reach nx2 (λ room. let f = fits (omega (arith, room, rd.level.stop)) in omega (arith, f, lo, rd.before)))

  pub field_all_tell : (e : FrameErr) → ((later : List Bool) → FailsFirst (field_checks rule (bit_of r) (8 * r.top.stop) (drop r.bit (digits_of_bytes octets ++ later))) e) → (bit_of r + rule.width ≤ 8 * r.top.stop → r.bit + rule.width ≤ 8 * length octets) → TellsFor r.set (b ∷ outer) front r.octets e
  field_all_tell e f fits = record {
    tree = leading b.head b.stop b.fields ∷ outer;
    is = inl (ap (λ (x : Begun). x ∷ outer) staged.bare);
    root = staged.reaches.root;
    tells = λ more long.
        let ds : List Bool = digits_of_bytes (front ++ more) in
        let there = seen front more octets r.at r.bit rd.before d in
        let g : FailsFirst (field_checks rule (bit_of r) b.stop (drop (bit_of r) ds)) e = subst (λ (x : List Bool). FailsFirst (field_checks rule (bit_of r) b.stop x) e) (sym there) (subst (λ (n : ℕ). FailsFirst (field_checks rule (bit_of r) n (drop r.bit (digits_of_bytes octets ++ digits_of_bytes more))) e) (sym rd.level.stop) (f (digits_of_bytes more))) in
        field_tells_at ds r.top.kind b.head b.stop b.fields outer (bit_of r) rule others e rd.level.kind next_is (stands_leading more long) g;
    decided = decided_for (b ∷ outer) front r.octets e (field_decides fits);
  }

  pub field_undecided : bit_of r + rule.width ≤ 8 * r.top.stop → 8 * length octets < r.bit + rule.width → IsUndecided front r.octets (b ∷ outer)
  field_undecided room lt =
      let lo : length octets ≡ length front - r.at = sym (ap (λ (x : List ℕ). length x) d) ∙ length-drop r.at front in
      let P : Begun → Type 0 = λ x. IsUndecided front r.octets (x ∷ outer) in
      let reach : Reaches r.set front r.octets (leading b.head b.stop b.fields ∷ outer) (bit_of r) = subst (λ (x : Begun). Reaches r.set front r.octets (x ∷ outer) (bit_of r)) staged.bare staged.reaches in
      let nx2 : drop (length b.fields) (fields_of (kind_of_head b.head)) ≡ rule ∷ others = ap (λ (k : Kind). drop (length b.fields) (fields_of k)) rd.level.kind ∙ next_is in
      subst P (sym staged.bare) (field_waits front r.octets b.head b.stop b.fields outer (bit_of r) rule others reach nx2 (omega (arith, rd.level.stop)) (omega (arith, lo, rd.before)))

  pub field_reaches : (v : ℕ) → bit_of r + rule.width ≤ 8 * r.top.stop → r.bit + rule.width ≤ 8 * length octets → ((later : List Bool) → v ≡ number (drop r.bit (digits_of_bytes octets ++ later)) 0 rule.width) → in_range rule v ≡ true
      → Reaches r.set front r.octets (leading b.head b.stop (b.fields ++ v ∷ []) ∷ outer) (bit_of r + rule.width)
  field_reaches v room within is fit =
      let lo : length octets ≡ length front - r.at = sym (ap (λ (x : List ℕ). length x) d) ∙ length-drop r.at front in
      reaches_in front r.octets (leading b.head b.stop (b.fields ++ v ∷ []) ∷ outer) (bit_of r + rule.width) staged.reaches.fits (omega (arith, rd.before)) staged.reaches.root (λ more long.
      let ds : List Bool = digits_of_bytes (front ++ more) in
      let there = seen front more octets r.at r.bit rd.before d in
      field_grows ds r.top.kind b.head b.stop b.fields (b.fields ++ v ∷ []) outer (bit_of r) rule others v rd.level.kind next_is (omega (arith, rd.level.stop)) (is (digits_of_bytes more) ∙ ap (λ (x : List Bool). number x 0 rule.width) (sym there)) fit refl (stands_leading more long))
