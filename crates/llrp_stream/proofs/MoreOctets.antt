-- More octets of a frame.
use Rattle.std.proofs.Common.{◌≡◌, ℕ, ◌+◌, ◌-◌, ◌*◌, ◌≤◌, Bool, true, List, [], ◌∷◌, ◌++◌, length, take, drop, refl, sym, ap, subst, ◌∙◌, arith, append_assoc, length-append}
use Rattle.std.specs.Prelude.{nat_le}
use Rattle.std.proofs.lemmas.Bool.{leb-true}
use Rattle.std.proofs.lemmas.List.{take-append-le, drop-append-le, drop-drop}
use Rattle.tag_bits.specs.Digits.{digits_of_bytes}
use Rattle.tag_bits.proofs.ByteLemmas.{length-bytes, bytes-append}
use Rattle.llrp_tree.specs.declared.fault.Fault.{Fault}
use Rattle.llrp_tree.specs.declared.fault.FrameErr.{FrameErr}
use Rattle.llrp_schema.specs.declared.kinds.KindSet.{KindSet}
use Rattle.llrp_tree.specs.Spelling.{Head, message, tlv, tv}
use Rattle.llrp_tree.specs.OpenTree.{Begun, rules, form, plain_values, IsHead, IsOpenTree}
use Rattle.llrp_tree.specs.Lawful.{count_octets}
use Rattle.llrp_tree.specs.FirstFault.{tail_length, octets_at, has_ended}
use Rattle.llrp_tree.specs.Calls.Standing.{leading, end_of}
use Rattle.llrp_tree.specs.Private.Standing.{Tells}
use Rattle.llrp_tree.specs.declared.fault.FrameErr.TheVariants.{Memory, Bad}
use Rattle.llrp_stream.specs.declared.engine.body_reader.BodyReader.{BodyReader}
use Rattle.llrp_stream.specs.declared.engine.body_reader.Stage.{Stage}
use Rattle.llrp_stream.specs.declared.engine.body_reader.Stage.TheVariants.{Leading, Tail, Children}
use Rattle.llrp_stream.specs.Calls.Front.{Reaches}
use Rattle.llrp_stream.specs.Private.Front.{TellsAll, TellsFor, FailsHanded, FailsWith, MayFailWith}
use Rattle.llrp_stream.proofs.FaultTrees.{tells_all}
use Rattle.llrp_stream.proofs.PlaceLemmas.{ends_in}
use Rattle.llrp_stream.proofs.RefusedLemmas.{handed_more}
use Rattle.llrp_stream.specs.Calls.Reading.{HasReadTo, Are, IsAtStage, MayFailFor, Told}
use Rattle.llrp_stream.specs.Private.Reading.{IsComplete}

pub reaches_more : {p : KindSet} (front more : List ℕ) (n : ℕ) (t : List Begun) (at : ℕ) → length (front ++ more) ≤ n → Reaches p front n t at → Reaches p (front ++ more) n t at
reaches_more front more n t at le r =
    let long : length (digits_of_bytes front) ≡ 8 * length front = length-bytes front in
    let l = length-append front more in
    record {
      is_open = r.is_open;
      covered = r.covered ∙ sym (ap (λ (x : List Bool). take at x) (bytes-append front more) ∙ take-append-le at (digits_of_bytes front) (digits_of_bytes more) (omega (arith, r.within)));
      within = omega (arith, r.within);
      ends = r.ends;
      fits = le;
      root = r.root;
    }

stage_more : (s : Stage) (r : BodyReader) (front more : List ℕ) (b : Begun) (outer : List Begun) → length (front ++ more) ≤ r.octets → IsAtStage s r front b outer → IsAtStage s r (front ++ more) b outer
stage_more (Leading next) r front more b outer le i = record { bare = i.bare; count = i.count; first_is = i.first_is; reaches = reaches_more front more r.octets (b ∷ outer) (8 * r.at + r.bit) le i.reaches }
stage_more (Tail left) r front more b outer le i =
    let within = i.reaches.within in
    let long : length (digits_of_bytes front) ≡ 8 * length front = length-bytes front in
    let on = λ (k : ℕ) (le : k ≤ length (digits_of_bytes front)) (later : List Bool). ap (λ (x : List Bool). drop k x ++ later) (bytes-append front more) ∙ ap (λ (x : List Bool). x ++ later) (drop-append-le k (digits_of_bytes front) (digits_of_bytes more) le) ∙ append_assoc (drop k (digits_of_bytes front)) (digits_of_bytes more) later in
    record {
      so_far = i.so_far;
      from = i.from;
      is = i.is;
      all_fields = i.all_fields;
      has = i.has;
      aligned = i.aligned;
      place = i.place;
      reaches = reaches_more front more r.octets (leading b.head b.stop b.fields ∷ outer) (8 * i.from) le i.reaches;
      length_is = λ later. ap (λ (x : List Bool). tail_length (form b) (plain_values (rules b) b.fields) (b.stop - 8 * i.from) x) (on (8 * i.from) (omega (arith, within)) later) ∙ i.length_is (digits_of_bytes more ++ later);
      inside = i.inside;
      before = let l = length-append front more in omega (arith, i.before);
      read = λ later. ap (λ (x : List Bool). octets_at (length i.so_far) x) (on (8 * (i.from + count_octets (form b))) (omega (arith, i.before, long)) later) ∙ i.read (digits_of_bytes more ++ later);
      units = i.units;
    }
stage_more Children r front more b outer le i = record { ready = i.ready; aligned = i.aligned; reaches = reaches_more front more r.octets (b ∷ outer) (8 * r.at) le i.reaches }

pub reads_more : (r : BodyReader) (front more : List ℕ) (b : Begun) (outer : List Begun) → length (front ++ more) ≤ r.octets → HasReadTo r front b outer → HasReadTo r (front ++ more) b outer
reads_more r front more b outer le rd =
    let l = length-append front more in
    record { level = rd.level; levels = rd.levels; stage = stage_more r.stage r front more b outer le rd.stage; before = omega (arith, rd.before); small = rd.small; bit_small = rd.bit_small }

module _ (begins stands : List Begun → Type 0) (r : BodyReader) where
  pub are_more : (front more : List ℕ) → length (front ++ more) ≤ r.octets → Are begins stands r front → Are begins stands r (front ++ more)
  are_more front more le a = record { node = a.node; outer = a.outer; reads = reads_more r front more a.node a.outer le a.reads; told = a.told }

pub tells_more : (p : KindSet) (front more : List ℕ) (n : ℕ) (e : FrameErr) → TellsAll p front n e → TellsAll p (front ++ more) n e
tells_more p front more n e f = λ later long.
    let same = append_assoc front more later in
    subst (λ (x : List ℕ). Tells p (digits_of_bytes x) e) (sym same) (f (more ++ later) (sym (ap (λ (x : List ℕ). length x) same) ∙ long))

may_fail : (s : Stage) (x : Fault) → MayFailWith s (Bad x) → MayFailFor s x.reason
may_fail (Leading next) x m = m
may_fail (Tail left) x m = m
may_fail Children x m = m

pub fails_with : (begins stands : List Begun → Type 0) (r : BodyReader) (front : List ℕ) (b : Begun) (outer : List Begun) (e : FrameErr) → HasReadTo r front b outer → TellsFor r.set (b ∷ outer) front r.octets e → (s : Stage) → r.stage ≡ s → Told begins stands s (b ∷ outer) → MayFailWith s e → FailsWith begins stands r r.at r.set front r.octets e
fails_with begins stands r front b outer Memory rd f s is t m = tt
fails_with begins stands r front b outer (Bad x) rd f s is t m =
    (tells_all r.set (b ∷ outer) front r.octets (Bad x) f, (b ∷ outer, subst (λ (x : Stage). Told begins stands x (b ∷ outer)) (sym is) t, record { tree = f.tree; is = f.is; root = f.root; fails = f.tells }, ends_in r front b outer rd, f.decided, rd, subst (λ (y : Stage). MayFailFor y x.reason) (sym is) (may_fail s x m)))

pub fails_more : (p : KindSet) (stands : List Begun → Type 0) (faulty : List Begun → List ℕ → Fault → Type 0) (front more : List ℕ) (n : ℕ) (e : FrameErr) → FailsHanded stands faulty p front n e → FailsHanded stands faulty p (front ++ more) n e
fails_more p stands faulty front more n Memory f = tt
fails_more p stands faulty front more n (Bad x) f = (tells_more _ front more n (Bad x) f.0, f.1, handed_more faulty p front more n x f.2)

-- octets after a place, with more
pub behind_more : (front more octets : List ℕ) (at : ℕ) → at ≤ length front → drop at front ≡ octets → drop at (front ++ more) ≡ octets ++ more
behind_more front more octets at le d = drop-append-le at front more le ∙ ap (λ (x : List ℕ). x ++ more) d

pub behind_on : (front octets : List ℕ) (at used new : ℕ) → drop at front ≡ octets → new ≡ at + used → drop new front ≡ drop used octets
behind_on front octets at used new d e = ap (λ (n : ℕ). drop n front) e ∙ (sym (drop-drop used at front ∙ ap (λ (n : ℕ). drop n front) (omega arith)) ∙ ap (λ (x : List ℕ). drop used x) d)

over_message : (h : Head) (stop at : ℕ) → IsHead h stop [] → has_ended h (nat_le stop at) ≡ true → stop ≤ at
over_message (message v k n id) stop at i o = leb-true stop at o
over_message (tlv k n) stop at i o = absurd i
over_message (tv k) stop at i o = absurd i

pub head_alone : (b : Begun) → IsOpenTree (b ∷ []) → IsHead b.head b.stop []
unfolding IsOpenTree
head_alone b s = s.0.head

pub end_alone : (b : Begun) → end_of (b ∷ []) ≡ b.stop
unfolding end_of
end_alone b = refl

-- where a message is whole the frame ends
pub whole_ends : (stands : List Begun → Type 0) (r : BodyReader) (front : List ℕ) → IsComplete stands r front → length front ≡ r.octets
whole_ends stands r front w =
    let h = head_alone w.node w.reaches.is_open in
    let o = over_message w.node.head w.node.stop (8 * r.at) h w.over in
    let e = end_alone w.node in
    omega (arith, w.reaches.ends, w.reaches.within, w.reaches.fits)
