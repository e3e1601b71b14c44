-- What the engine keeps of a frame, whichever listener receives its parts.
use Rattle.std.proofs.Common.{◌≡◌, ℕ, ◌+◌, ◌*◌, ◌<◌, ◌≤◌, List, [], ◌∷◌, ◌++◌, length, drop, refl, sym, ap, subst, ◌∙◌, arith, length-drop}
use Rattle.std.proofs.lemmas.List.{length-reverse}
use Rattle.tag_bits.specs.Digits.{digits_of_bytes}
use Rattle.llrp_tree.specs.OpenTree.{Begun, kind_of_head}
use Rattle.llrp_tree.specs.Calls.Deciding.{deciding, FailsIn}
use Rattle.llrp_tree.specs.Private.Weight.{open_weight}
use Rattle.llrp_tree.proofs.Undecided.{undecided_until, fails_after_header}
use Rattle.llrp_stream.specs.declared.engine.body.Body.{Body}
use Rattle.llrp_stream.specs.declared.engine.body_reader.Stage.{Stage}
use Rattle.llrp_stream.specs.declared.engine.frames.Frames.{Frames}
use Rattle.llrp_stream.specs.declared.state.State.{State}
use Rattle.llrp_stream.specs.declared.state.State.TheVariants as state
use Rattle.llrp_stream.specs.Cuts.{IsFrame}
use Rattle.llrp_stream.specs.Calls.Items.{header_fault_in, HasHeaderFaultIn}
use Rattle.llrp_stream.specs.Calls.Reading.{settled}
use Rattle.llrp_stream.specs.Calls.Frames.{IsReading, ComesAt, IsFrontOf, held_at, held_of, set_of}
use Rattle.llrp_stream.specs.Calls.Decoding.{IsDecidedIn}
use Rattle.llrp_stream.proofs.Bounds.{covered_length}
use Rattle.llrp_stream.proofs.ChildPart.{levels_length}
use Rattle.llrp_stream.proofs.Reached.{stands_in}
use Rattle.llrp_stream.proofs.FrontLemmas.{length_field-append, header_fault-append}
use Rattle.llrp_stream.proofs.HeldLemmas.{held_within}
use Rattle.llrp_stream.proofs.FramesLemmas.{reaches_settled}

-- each open node weighs two at least
two_each : (t : List Begun) → 2 * length t ≤ open_weight t
two_each [] = omega arith
two_each (b ∷ outer) = omega (arith, two_each outer)

-- The open nodes and the raw octets of a body cover the front.
pub record Covers (limit : ℕ) (body : Body) (front : List ℕ) : Type 0 where
  pub levels : 2 * (length body.reader.outer.items + 1) ≤ body.reader.at
  pub all : body.reader.at + length body.raw.items ≡ length front
  pub more : length front < body.reader.octets
  pub within : body.reader.octets ≤ limit
  pub few : length body.raw.items < 16

module _ (begins stands : List Begun → Type 0) where
  pub covers : (limit id : ℕ) (body : Body) (front : List ℕ) → IsReading begins stands limit id body front → Covers limit body front
  covers limit id body front r =
      let st = r.awaits.stands_for in
      let t : List Begun = st.are.node ∷ st.are.outer in
      let own : open_weight t ≤ body.reader.at = held_within body.reader front st.are.node st.are.outer st.are.reads in
      let same : length body.reader.outer.items ≡ length st.are.outer = sym (length-reverse body.reader.outer.items) ∙ levels_length _ (kind_of_head st.are.node.head) st.are.outer st.are.reads.levels in
      let back = ap (λ (x : List ℕ). length x) st.raw in
      record {
        levels = omega (arith, own, same, two_each t);
        all = omega (arith, back, length-drop body.reader.at front, st.are.reads.before);
        more = r.awaits.short.more;
        within = r.passed.within;
        few = st.few;
      }

  pub undecided_reading : (limit id : ℕ) (body : Body) (front more : List ℕ) → IsReading begins stands limit id body front → IsFrame (front ++ more) → FailsIn body.reader.set limit (front ++ more) (length front) → ⊥
  unfolding header_fault_in
  undecided_reading limit id body front more r is f =
      let are = r.awaits.stands_for.are in
      let s : Stage = body.reader.stage in
      let t : List Begun = settled s are.node ∷ are.outer in
      let long : length (front ++ more) ≡ body.reader.octets = sym is.whole ∙ length_field-append front more (omega (arith, r.passed.long)) ∙ sym r.passed.octets_are in
      let reach = reaches_settled s body.reader front are.node are.outer are.reads.stage in
      let st = stands_in front more body.reader.octets t reach.0 reach.1 long in
      let P : ℕ → Type 0 = λ k. 8 * length front < deciding t (drop k (digits_of_bytes (front ++ more))) in
      let lt : P reach.0 = subst P (covered_length front body.reader.octets t reach.0 reach.1) (r.awaits.short.undecided more long) in
      undecided_until body.reader.set limit (front ++ more) (length front) t reach.0 st reach.1.root (header_fault-append _ limit front more r.passed.long ∙ r.passed.passes) lt f

  pub held_front : (limit : ℕ) (s : State) (body : Body) (front : List ℕ) → ComesAt begins stands limit s body front → held_at s body ≤ length front
  held_front limit state.Between body front k = omega arith
  held_front limit state.Header body front k = let same = ap (λ (x : List ℕ). length x) k.0 in omega arith
  held_front limit (state.Reading id) body front k = let c = covers limit id body front k in omega (arith, c.levels, c.all)
  held_front limit (state.Skipping count header) body front k = omega arith
  held_front limit state.Broken body front k = absurd k
  held_front limit state.Dead body front k = absurd k

  pub held_limit : (limit : ℕ) (s : State) (body : Body) (front : List ℕ) → 10 ≤ limit → ComesAt begins stands limit s body front → held_at s body ≤ limit
  held_limit limit state.Between body front ten k = omega arith
  held_limit limit state.Header body front ten k = let same = ap (λ (x : List ℕ). length x) k.0 in omega (arith, k.2)
  held_limit limit (state.Reading id) body front ten k = let c = covers limit id body front k in omega (arith, c.levels, c.all, c.more, c.within)
  held_limit limit (state.Skipping count header) body front ten k = omega arith
  held_limit limit state.Broken body front ten k = absurd k
  held_limit limit state.Dead body front ten k = absurd k

  pub held_decided : (limit : ℕ) (s : State) (body : Body) (front : List ℕ) → ComesAt begins stands limit s body front → IsDecidedIn body.reader.set limit front → held_at s body ≡ 0
  held_decided limit state.Between body front k d = refl
  held_decided limit state.Header body front k d = absurd (let ten = fails_after_header body.reader.set limit (front ++ d.0) (length front) d.2 in omega (arith, k.2))
  held_decided limit (state.Reading id) body front k d = absurd (undecided_reading limit id body front d.0 k d.1 d.2)
  held_decided limit (state.Skipping count header) body front k d = refl
  held_decided limit state.Broken body front k d = refl
  held_decided limit state.Dead body front k d = refl

  pub held_skipped : (limit : ℕ) (s : State) (body : Body) (front : List ℕ) → ComesAt begins stands limit s body front → HasHeaderFaultIn body.reader.set limit front → held_at s body ≡ 0
  held_skipped limit state.Between body front k d = refl
  held_skipped limit state.Header body front k d = absurd (omega (arith, k.2, d.0))
  held_skipped limit (state.Reading id) body front k d = absurd (d.1 k.passed.passes)
  held_skipped limit (state.Skipping count header) body front k d = refl
  held_skipped limit state.Broken body front k d = refl
  held_skipped limit state.Dead body front k d = refl

-- What frames keep.
pub record Holds (frames : Frames) (n : ℕ) : Type 0 where
  pub weight_is : n ≡ held_of frames
  pub within : (front : List ℕ) → IsFrontOf frames front → 10 ≤ frames.limit → n ≤ frames.limit
  pub front : (front : List ℕ) → IsFrontOf frames front → n ≤ length front
  pub skipped : (front : List ℕ) → IsFrontOf frames front → HasHeaderFaultIn (set_of frames) frames.limit front → n ≡ 0
  pub decided : (front : List ℕ) → IsFrontOf frames front → IsDecidedIn (set_of frames) frames.limit front → n ≡ 0

pub holds : (frames : Frames) (s : State) (n : ℕ) → frames.state ≡ s → n ≡ held_at s frames.body → Holds frames n
holds frames s n is e =
    let begins : List Begun → Type 0 = λ tree. Unit {0} in
    let same : n ≡ held_of frames = e ∙ ap (λ (x : State). held_at x frames.body) (sym is) in
    record {
      weight_is = same;
      within = λ front k ten. omega (arith, same, held_limit begins begins frames.limit frames.state frames.body front ten k);
      front = λ front k. omega (arith, same, held_front begins begins frames.limit frames.state frames.body front k);
      skipped = λ front k f. same ∙ held_skipped begins begins frames.limit frames.state frames.body front k f;
      decided = λ front k d. same ∙ held_decided begins begins frames.limit frames.state frames.body front k d;
    }
