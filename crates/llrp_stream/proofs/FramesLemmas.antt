-- What is made of the current frame of a stream.
use Rattle.std.proofs.Common.{◌≡◌, ◌⊎◌, inl, inr, ℕ, zero, suc, ◌+◌, ◌-◌, ◌*◌, ◌<◌, ◌≤◌, Bool, false, List, [], ◌∷◌, ◌++◌, length, take, drop, min, Option, Some, None, refl, sym, ap, subst, ◌∙◌, arith, length-append, append_assoc}
use Rattle.std.specs.Prelude.{IsSome, Result, Ok, Err, IfOk, IfErr, OnOk}
use Rattle.std.proofs.Math.Seq.{take-add}
use Rattle.std.proofs.lemmas.List.{append-nil, take-append-drop, take_all, length-take-le, length-drop}
use Rattle.tag_bits.specs.Digits.{digits_of_bytes}
use Rattle.llrp_tree.specs.declared.TheConstants.{MAX_LIMIT}
use Rattle.llrp_tree.specs.declared.fault.Fault.{Fault}
use Rattle.llrp_tree.specs.declared.fault.FrameErr.TheVariants as frame_err
use Rattle.llrp_tree.specs.declared.header.Header.{Header}
use Rattle.llrp_tree.specs.Tree.{MessageTree}
use Rattle.llrp_tree.specs.Lawful.{AreOctets}
use Rattle.llrp_tree.specs.FirstFault.{first_failing, header_checks_in}
use Rattle.llrp_tree.specs.OpenTree.{Begun}
use Rattle.llrp_schema.specs.declared.kinds.KindSet.{KindSet}
use Rattle.llrp_tree.proofs.Frames.{fault_of_frame}
use Rattle.llrp_tree.proofs.OctetLemmas.{octets-append}
use Rattle.llrp_stream.specs.declared.header.FaultyHeader.{FaultyHeader}
use Rattle.llrp_stream.specs.declared.item.FeedErr.{FeedErr}
use Rattle.llrp_stream.specs.declared.item.FeedErr.TheVariants as failure
use Rattle.llrp_stream.specs.declared.engine.body.Body.{Body}
use Rattle.llrp_stream.specs.declared.engine.body_reader.BodyReader.{BodyReader}
use Rattle.llrp_stream.specs.declared.engine.frames.Came.{Came}
use Rattle.llrp_stream.specs.declared.engine.frames.Frames.{Frames}
use Rattle.llrp_stream.specs.declared.engine.frames.Outcome.{Outcome}
use Rattle.llrp_stream.specs.declared.engine.frames.Outcome.TheVariants.{Whole, Bad}
use Rattle.llrp_stream.specs.declared.state.State.{State}
use Rattle.llrp_stream.specs.declared.state.State.TheVariants as state
use Rattle.llrp_stream.specs.Cuts.{length_field, IsFrame, IsPartial}
use Rattle.llrp_stream.specs.Items.{id_field}
use Rattle.llrp_stream.specs.Calls.Items.{header_fault_in, IsSkipped}
use Rattle.llrp_stream.specs.Private.Headers.{IsFaulty, IsSound}
use Rattle.llrp_stream.specs.Calls.Front.{Reaches}
use Rattle.llrp_stream.specs.Private.Front.{TellsAll}
use Rattle.llrp_stream.specs.declared.engine.body_reader.Stage.{Stage}
use Rattle.llrp_stream.specs.declared.engine.body_reader.Stage.TheVariants as stage
use Rattle.llrp_stream.specs.Private.Reading.{IsComplete}
use Rattle.llrp_stream.specs.Calls.Reading.{IsAtStage, settled}
use Rattle.llrp_stream.specs.Calls.Pieces.{BodyStands, Awaits}
use Rattle.llrp_stream.specs.Calls.Frames.{IsPassed, IsReading, ComesAt, Comes, IsIdle, GivesIn, TakesOn, is_skipped, Goes, Stops}
use Rattle.llrp_stream.specs.Private.Frames.{IsBegun, GoesOn, Begins, IsSkipping, SkipsTo}
use Rattle.llrp_stream.proofs.FrontLemmas.{length_field-append, id_field-append, header_fault-append, frame_ends, faulty_is_skipped, skipped-append}
use Rattle.llrp_stream.proofs.MoreOctets.{whole_ends}
use Rattle.llrp_tree.proofs.HeaderLemmas.{number_ahead}
use Rattle.llrp_stream.proofs.WholeFrames.{header_length}

-- ---- a frame whose header passes

-- more octets of it
pub passed_more : (limit id : ℕ) (old new : Body) (front more : List ℕ) → new.reader.octets ≡ old.reader.octets → new.reader.set ≡ old.reader.set → AreOctets more → IsPassed limit id old front → IsPassed limit id new (front ++ more)
passed_more limit id old new front more e set os p = record {
  long = omega (arith, p.long, length-append front more);
  octets_are = e ∙ p.octets_are ∙ sym (length_field-append front more (omega (arith, p.long)));
  within = omega (arith, e, p.within);
  id_is = p.id_is ∙ sym (id_field-append front more p.long);
  passes = subst (λ (q : KindSet). header_fault_in q limit (front ++ more) ≡ None) (sym set) (header_fault-append _ limit front more p.long ∙ p.passes);
  octets = octets-append front more p.octets os;
}

-- its first ten octets
pub passed_first : (p : KindSet) (limit : ℕ) (bytes : List ℕ) (header : Header) (body : Body) → length bytes ≡ 10 → IsSound p limit bytes header → AreOctets bytes → body.reader.octets ≡ header.octets → body.reader.set ≡ p → IsPassed limit header.id body bytes
unfolding header_fault_in length_field id_field
passed_first p limit bytes header body ten s os e set =
    let l = header_length limit bytes header.version header.kind header.octets header.id ten (λ later. s.says later) in
    let says = s.says [] in
    record {
      long = s.long;
      octets_are = e ∙ l.0;
      within = omega (arith, e, l.1);
      id_is = says.id_is ∙ sym (number_ahead bytes [] 48 32 (omega (arith, ten)));
      passes = subst (λ (q : KindSet). first_failing (header_checks_in q limit (digits_of_bytes bytes)) ≡ None) (sym set) (subst (λ (x : List Bool). first_failing (header_checks_in p limit x) ≡ None) (append-nil (digits_of_bytes bytes)) says.passes);
      octets = os;
    }

-- they are a frame, where its length is ten
pub bare_frame : {p : KindSet} (limit : ℕ) (bytes : List ℕ) (header : Header) → length bytes ≡ 10 → IsSound p limit bytes header → header.octets ≡ 10 → IsFrame bytes
unfolding length_field
bare_frame limit bytes header ten s e =
    let l = header_length limit bytes header.version header.kind header.octets header.id ten (λ later. s.says later) in
    record { header = s.long; whole = sym l.0 ∙ e ∙ sym ten }

-- where its message is whole it is a frame
pub whole_frame : (stands : List Begun → Type 0) (limit id : ℕ) (old : Body) (r : BodyReader) (front more : List ℕ) → IsPassed limit id old front → r.octets ≡ old.reader.octets → IsComplete stands r (front ++ more) → IsFrame (front ++ more)
whole_frame stands limit id old r front more p e w =
    let all = whole_ends stands r (front ++ more) w in
    record { header = omega (arith, p.long, length-append front more); whole = length_field-append front more (omega (arith, p.long)) ∙ sym p.octets_are ∙ sym e ∙ sym all }

-- the fault that is reported is that of each frame that begins so
pub failed_skipped : (limit id count : ℕ) (body : Body) (front more : List ℕ) (fault : Fault) → IsPassed limit id body front → count ≡ length front + length more → TellsAll body.reader.set (front ++ more) body.reader.octets (frame_err.Bad fault) → IsSkipped body.reader.set limit count body.reader.octets id fault (front ++ more)
unfolding header_fault_in
failed_skipped limit id count body front more fault p e tells =
    let both = length-append front more in
    let ten : 10 ≤ length (front ++ more) = omega (arith, p.long) in
    record {
      count_is = omega (arith, e);
      octets_are = p.octets_are ∙ sym (length_field-append front more (omega (arith, p.long)));
      id_is = p.id_is ∙ sym (id_field-append front more p.long);
      faulty = λ later is.
          let long : length ((front ++ more) ++ later) ≡ body.reader.octets = sym is.whole ∙ length_field-append (front ++ more) later (omega (arith, ten)) ∙ length_field-append front more (omega (arith, p.long)) ∙ sym p.octets_are in
          fault_of_frame body.reader.set limit ((front ++ more) ++ later) fault.bit fault.reason (header_fault-append _ limit (front ++ more) later ten ∙ header_fault-append _ limit front more p.long ∙ p.passes) (tells later long);
    }

-- ---- a frame that is skipped

-- it goes on past the piece
pub skip_more : (p : KindSet) (limit count n : ℕ) (header : FaultyHeader) (front piece : List ℕ) (new : Frames) → 10 ≤ count → n ≡ length piece → n < header.octets - count → new.state ≡ state.Skipping (count + n) header → IsSkipped p limit count header.octets header.id header.fault front → SkipsTo p limit front piece new n None
skip_more p limit count n header front piece new ten e lt st s =
    let more : IsSkipping p limit (state.Skipping (count + n) header) (front ++ piece) = (skipped-append _ limit count header.octets header.id n header.fault front piece ten e s, omega arith, omega arith) in
    (e, subst (λ (x : State). IsSkipping p limit x (front ++ piece)) (sym st) more)

-- or ends in it
pub skip_end : (p : KindSet) (limit count left : ℕ) (header : FaultyHeader) (front piece : List ℕ) (new : Frames) → 10 ≤ count → count ≤ header.octets → left ≡ header.octets - count → left ≤ length piece → new.state ≡ state.Between → IsSkipped p limit count header.octets header.id header.fault front
    → SkipsTo p limit front piece new left (Some (Bad header.id header.fault))
skip_end p limit count left header front piece new ten inside e le st s =
    let is = frame_ends front piece header.octets left (omega (arith, s.count_is)) (omega arith) s.octets_are (omega (arith, s.count_is)) le in
    (le, is, (s.id_is ∙ sym (id_field-append front (take left piece) (omega (arith, s.count_is))), s.faulty (take left piece) is), st)

module _ (begins stands : List Begun → Type 0) where
  skipping_comes : (limit : ℕ) (s : State) (body : Body) (front : List ℕ) → body.raw.items ≡ [] → stands [] → IsSkipping body.reader.set limit s front → ComesAt begins stands limit s body front
  skipping_comes limit state.Between body front r st k = absurd k
  skipping_comes limit state.Header body front r st k = absurd k
  skipping_comes limit (state.Reading id) body front r st k = absurd k
  skipping_comes limit (state.Skipping count header) body front r st k = (k.0, k.1, k.2, r, st)
  skipping_comes limit state.Broken body front r st k = absurd k
  skipping_comes limit state.Dead body front r st k = absurd k

  -- where a frame begins
  pub at_start : (limit : ℕ) (s : State) (body : Body) (front : List ℕ) → (s ≡ state.Between) ⊎ (s ≡ state.Header) → ComesAt begins stands limit s body front → (body.raw.items ≡ front) × (length front < 10) × stands []
  at_start limit state.Between body front o k = (k.1 ∙ sym k.0, (let none = ap (λ (x : List ℕ). length x) k.0 in omega arith), k.2)
  at_start limit state.Header body front o k = (k.0, k.2, k.4)
  at_start limit (state.Reading id) body front o k = elim o [ inl e ↦ absurd cc | inr e ↦ absurd cc ]
  at_start limit (state.Skipping count header) body front o k = elim o [ inl e ↦ absurd cc | inr e ↦ absurd cc ]
  at_start limit state.Broken body front o k = absurd k
  at_start limit state.Dead body front o k = absurd k

-- a front that comes, by the state
pub state_comes : (begins stands : List Begun → Type 0) (limit : ℕ) (old new : State) (body : Body) (front : List ℕ) → old ≡ new → ComesAt begins stands limit old body front → ComesAt begins stands limit new body front
state_comes begins stands limit old new body front e k = subst (λ (x : State). ComesAt begins stands limit x body front) e k

-- some octets of a header, or none
header_comes : (begins stands : List Begun → Type 0) (limit : ℕ) (new : Frames) (mid : List ℕ) → length mid < 10 → IsPartial mid → new.body.raw.items ≡ mid → stands [] → (mid ≡ [] → new.state ≡ state.Between) → (0 < length mid → new.state ≡ state.Header)
    → ComesAt begins stands limit new.state new.body mid
header_comes begins stands limit new [] lt part r st none some = state_comes begins stands limit state.Between new.state new.body [] (sym (none refl)) (refl, r, st)
header_comes begins stands limit new (x ∷ xs) lt part r st none some = state_comes begins stands limit state.Header new.state new.body (x ∷ xs) (sym (some (omega arith))) (r, omega arith, lt, part, st)

-- ---- how far a body is read

pub reaches_settled : (s : Stage) (r : BodyReader) (front : List ℕ) (b : Begun) (outer : List Begun) → IsAtStage s r front b outer → (at : ℕ) × Reaches r.set front r.octets (settled s b ∷ outer) at
reaches_settled (stage.Leading next) r front b outer i = (8 * r.at + r.bit, i.reaches)
reaches_settled (stage.Tail left) r front b outer i = (8 * i.from, i.reaches)
reaches_settled stage.Children r front b outer i = (8 * r.at, i.reaches)

-- What is known of the places in a body.
pub record IsWithin (body : Body) (front : List ℕ) : Type 0 where
  pub all : body.reader.at + length body.raw.items ≡ length front
  pub fits : length front ≤ body.reader.octets
  pub small : body.reader.octets ≤ MAX_LIMIT

pub within : (begins stands : List Begun → Type 0) (body : Body) (front : List ℕ) → BodyStands begins stands body front → IsWithin body front
within begins stands body front st =
    let back = ap (λ (x : List ℕ). length x) st.raw in
    let reach = reaches_settled body.reader.stage body.reader front st.are.node st.are.outer st.are.reads.stage in
    record { all = omega (arith, back, length-drop body.reader.at front, st.are.reads.before); fits = reach.1.fits; small = st.are.reads.small }

-- the near part of a piece goes no further than the frame
pub near_is : (piece near : List ℕ) (used : ℕ) → used ≤ length piece → near ≡ take used piece → length near ≡ used
near_is piece near used le en = ap (λ (x : List ℕ). length x) en ∙ length-take-le used piece le

pub octets-take : (k : ℕ) (bytes : List ℕ) → AreOctets bytes → AreOctets (take k bytes)
octets-take zero bytes os = tt
octets-take (suc k) [] os = tt
octets-take (suc k) (b ∷ bytes) os = (os.0, octets-take k bytes os.1)

-- ---- what a feed takes

module _ (begins stands : List Begun → Type 0) (ends : MessageTree → List ℕ → Type 0) (rests : List ℕ → Type 0) (limit : ℕ) where
  -- what is skipped, where the listener has what it had
  pub skip_takes : (front piece : List ℕ) (new : Frames) (used : ℕ) (outcome : Option Outcome) → new.body.raw.items ≡ [] → stands [] → SkipsTo new.body.reader.set limit front piece new used outcome → TakesOn begins stands ends rests limit front piece new used outcome
  skip_takes front piece new used None r st s = (s.0, skipping_comes begins stands limit new.state new.body (front ++ piece) r st s.1)
  skip_takes front piece new used (Some Whole) r st s = absurd s.2
  skip_takes front piece new used (Some (Bad id fault)) r st s = (s.0, s.1, (s.2.0, s.2.1, st), (s.3, r))

  -- the first n octets of a piece belong to the front
  pub takes_behind : (front piece mid rest : List ℕ) (new : Frames) (used n : ℕ) (outcome : Option Outcome) → n ≤ length piece → mid ≡ front ++ take n piece → rest ≡ drop n piece → TakesOn begins stands ends rests limit mid rest new used outcome
      → TakesOn begins stands ends rests limit front piece new (used + n) outcome
  takes_behind front piece mid rest new used n None le em er t =
      let whole : mid ++ rest ≡ front ++ piece =
      ap (λ (x : List ℕ). x ++ rest) em ∙ ap (λ (x : List ℕ). (front ++ take n piece) ++ x) er ∙ append_assoc front (take n piece) (drop n piece) ∙ ap (λ (x : List ℕ). front ++ x) (take-append-drop n piece) in
      (let long = ap (λ (x : List ℕ). length x) er in omega (arith, t.0, length-drop n piece), subst (λ (x : List ℕ). ComesAt begins stands limit new.state new.body x) whole t.1)
  takes_behind front piece mid rest new used n (Some outcome) le em er t =
      let sum : n + used ≡ used + n = omega arith in
      let whole : mid ++ take used rest ≡ front ++ take (used + n) piece =
      ap (λ (x : List ℕ). x ++ take used rest) em ∙ ap (λ (x : List ℕ). (front ++ take n piece) ++ take used x) er ∙ append_assoc front (take n piece) (take used (drop n piece)) ∙ ap (λ (x : List ℕ). front ++ x) (sym (take-add n used piece) ∙ ap (λ (k : ℕ). take k piece) sum) in
      (let long = ap (λ (x : List ℕ). length x) er in omega (arith, t.0, length-drop n piece), subst (λ (x : List ℕ). IsFrame x) whole t.1, subst (λ (x : List ℕ). GivesIn new.body.reader.set stands ends rests limit x outcome) whole t.2, t.3)

  -- ---- in the body

  -- the frame goes on past the piece
  pub goes_on_reading : (id used : ℕ) (old : Body) (new : Frames) (front piece near : List ℕ) → IsPassed limit id old front → AreOctets piece → used ≡ min (length piece) (old.reader.octets - length front) → near ≡ take used piece → new.state ≡ state.Reading id
      → Awaits begins stands new.body (front ++ near) → new.body.reader.octets ≡ old.reader.octets → new.body.reader.set ≡ old.reader.set → TakesOn begins stands ends rests limit front piece new used None
  goes_on_reading id used old new front piece near p os e en st a same set =
      let le : used ≤ length piece = omega (arith, e) in
      let long : length near ≡ used = ap (λ (x : List ℕ). length x) en ∙ length-take-le used piece le in
      let both = length-append front near in
      let more : length (front ++ near) < new.body.reader.octets = a.short.more in
      let all : used ≡ length piece = omega (arith, e) in
      let whole : front ++ near ≡ front ++ piece = ap (λ (x : List ℕ). front ++ x) (en ∙ take_all used piece (omega arith)) in
      let r : IsReading begins stands limit id new.body (front ++ piece) = record { passed = passed_more limit id old new.body front piece same set os p; awaits = subst (λ (x : List ℕ). Awaits begins stands new.body x) whole a } in
      (all, state_comes begins stands limit (state.Reading id) new.state new.body (front ++ piece) (sym st) r)

  -- its message ends
  pub goes_on_end : (used : ℕ) (new : Frames) (front piece near : List ℕ) (result : Result Came FeedErr) → IsFrame (front ++ near) → near ≡ take used piece → used ≤ length piece
      → IfOk result (λ came. came ≡ record { used = used; outcome = Some Whole }) → IfOk result (λ _. IsIdle new) → IfErr result (λ error. error ≡ failure.Memory) → OnOk result (GivesIn new.body.reader.set stands ends rests limit (front ++ near) Whole) → GoesOn begins stands ends rests limit front piece new result
  goes_on_end used new front piece near (Ok came) is en le e idle bad g =
      let t : TakesOn begins stands ends rests limit front piece new used (Some Whole) = (le, subst (λ (x : List ℕ). IsFrame (front ++ x)) en is, subst (λ (x : List ℕ). GivesIn new.body.reader.set stands ends rests limit (front ++ x) Whole) en g, idle) in
      subst (λ (x : Came). TakesOn begins stands ends rests limit front piece new x.used x.outcome) (sym e) t
  goes_on_end used new front piece near (Err error) is en le e idle bad g = subst (λ (x : FeedErr). GoesOn begins stands ends rests limit front piece new (Err x)) (sym bad) tt

  -- a part of it fails
  pub goes_on_failed : (id count n : ℕ) (body : Body) (new : Frames) (front piece near rest : List ℕ) (fault : Fault) (came : Came) → IsPassed limit id body front → count ≡ length front + n → TellsAll body.reader.set (front ++ near) body.reader.octets (frame_err.Bad fault) → new.body.raw.items ≡ [] → stands []
      → n ≤ length piece → near ≡ take n piece → rest ≡ drop n piece → new.body.reader.set ≡ body.reader.set → ((start : List ℕ) → IsSkipped body.reader.set limit count body.reader.octets id fault start → SkipsTo body.reader.set limit start rest new came.used came.outcome)
      → TakesOn begins stands ends rests limit front piece new (came.used + n) came.outcome
  goes_on_failed id count n body new front piece near rest fault came p e tells r st le en er set f =
      let long : length near ≡ n = ap (λ (x : List ℕ). length x) en ∙ length-take-le n piece le in
      let s = f (front ++ near) (failed_skipped limit id count body front near fault p (omega (arith, e)) tells) in
      takes_behind front piece (front ++ near) rest new came.used n came.outcome le (ap (λ (x : List ℕ). front ++ x) en) er (skip_takes (front ++ near) rest new came.used came.outcome r st (subst (λ (q : KindSet). SkipsTo q limit (front ++ near) rest new came.used came.outcome) (sym set) s))

  -- the answer of a feed in the body, where some octets were taken before
  pub begins_behind : (front piece mid rest : List ℕ) (new : Frames) (n : ℕ) (came : Came) → n ≤ length piece → mid ≡ front ++ take n piece → rest ≡ drop n piece → GoesOn begins stands ends rests limit mid rest new (Ok came)
      → TakesOn begins stands ends rests limit front piece new (came.used + n) came.outcome
  begins_behind front piece mid rest new n came le em er t = takes_behind front piece mid rest new came.used n came.outcome le em er t

  pub begins_fails : (front piece mid rest : List ℕ) (new : Frames) (error : FeedErr) → GoesOn begins stands ends rests limit mid rest new (Err error) → Begins begins stands ends rests limit front piece new (Err error)
  begins_fails front piece mid rest new failure.Broken g = absurd g
  begins_fails front piece mid rest new failure.Memory g = tt
  begins_fails front piece mid rest new failure.Dead g = absurd g

  -- ---- in the header

  -- the header goes on past the piece
  pub begins_short : (n : ℕ) (new : Frames) (front piece mid : List ℕ) → n ≡ min (length piece) (10 - length front) → mid ≡ front ++ take n piece → length mid < 10 → IsPartial mid → new.body.raw.items ≡ mid → stands []
      → (mid ≡ [] → new.state ≡ state.Between) → (0 < length mid → new.state ≡ state.Header) → TakesOn begins stands ends rests limit front piece new n None
  begins_short n new front piece mid e em lt part r st none some =
      let le : n ≤ length piece = omega (arith, e) in
      let long : length mid ≡ length front + n = ap (λ (x : List ℕ). length x) em ∙ length-append front (take n piece) ∙ ap (λ (k : ℕ). length front + k) (length-take-le n piece le) in
      let all : n ≡ length piece = omega (arith, e) in
      let whole : mid ≡ front ++ piece = em ∙ ap (λ (x : List ℕ). front ++ x) (take_all n piece (omega arith)) in
      (all, subst (λ (x : List ℕ). ComesAt begins stands limit new.state new.body x) whole (header_comes begins stands limit new mid lt part r st none some))

  -- a check of it fails
  pub begins_faulty : (p : KindSet) (n : ℕ) (new : Frames) (front piece mid rest : List ℕ) (header : FaultyHeader) (came : Came) → n ≤ length piece → mid ≡ front ++ take n piece → rest ≡ drop n piece → length mid ≡ 10 → IsFaulty p limit mid header → new.body.reader.set ≡ p → new.body.raw.items ≡ [] → stands []
      → ((q : KindSet) (most : ℕ) (start : List ℕ) → IsSkipped q most 10 header.octets header.id header.fault start → SkipsTo q most start rest new came.used came.outcome) → TakesOn begins stands ends rests limit front piece new (came.used + n) came.outcome
  begins_faulty p n new front piece mid rest header came le em er ten f set r st s =
      takes_behind front piece mid rest new came.used n came.outcome le em er (skip_takes mid rest new came.used came.outcome r st (subst (λ (q : KindSet). SkipsTo q limit mid rest new came.used came.outcome) (sym set) (s p limit mid (faulty_is_skipped limit header mid 10 (sym ten) f))))

  -- ---- a frame that ends in a piece has octets of the piece

  taken_some : (id used : ℕ) (body : Body) (front piece : List ℕ) (new : Frames) (outcome : Option Outcome) → IsPassed limit id body front → length front < body.reader.octets → TakesOn begins stands ends rests limit front piece new used outcome → IsSome outcome → 0 < used
  taken_some id used body front piece new None p lt t some = absurd cc
  taken_some id used body front piece new (Some outcome) p lt t some =
      let whole = t.1.whole in
      let same = length_field-append front (take used piece) (omega (arith, p.long)) in
      omega (arith, whole, same, p.octets_are, length-append front (take used piece), length-take-le used piece t.0)

  pub goes_on_progress : (id : ℕ) (body : Body) (front piece : List ℕ) (new : Frames) (result : Result Came FeedErr) → IsPassed limit id body front → length front < body.reader.octets → GoesOn begins stands ends rests limit front piece new result
      → IfOk result (λ came. IsSome came.outcome → 0 < came.used)
  goes_on_progress id body front piece new (Ok came) p lt t = λ some. taken_some id came.used body front piece new came.outcome p lt t some
  goes_on_progress id body front piece new (Err error) p lt t = tt

-- ---- the same answers, where no frame is skipped

module _ (begins stands : List Begun → Type 0) (ends : MessageTree → List ℕ → Type 0) (rests : List ℕ → Type 0) (old new : Frames) (front piece : List ℕ) where
  pub begins_goes : (result : Result Came FeedErr) → is_skipped old.state ≡ false → Begins begins stands ends rests old.limit front piece new result → Goes begins stands ends rests old new front piece result
  begins_goes (Ok came) e b = b
  begins_goes (Err failure.Broken) e b = b
  begins_goes (Err failure.Memory) e b = e
  begins_goes (Err failure.Dead) e b = absurd b

  pub goes_on_goes : (result : Result Came FeedErr) → is_skipped old.state ≡ false → GoesOn begins stands ends rests old.limit front piece new result → Goes begins stands ends rests old new front piece result
  goes_on_goes (Ok came) e b = b
  goes_on_goes (Err failure.Broken) e b = absurd b
  goes_on_goes (Err failure.Memory) e b = e
  goes_on_goes (Err failure.Dead) e b = absurd b

  pub begins_takes : (raw : List ℕ) (result : Result Came FeedErr) → raw ≡ front → is_skipped old.state ≡ false → Begins begins stands ends rests old.limit raw piece new result → Goes begins stands ends rests old new front piece result
  begins_takes raw result same e b = begins_goes result e (subst (λ (x : List ℕ). Begins begins stands ends rests old.limit x piece new result) same b)

-- ---- what came before

pub start_unskipped : (s : State) → (s ≡ state.Between) ⊎ (s ≡ state.Header) → is_skipped s ≡ false
start_unskipped s o = elim o [ inl e ↦ ap is_skipped e | inr e ↦ ap is_skipped e ]

pub not_start : (s : State) → (s ≡ state.Between) ⊎ (s ≡ state.Header) → (s ≡ state.Broken) ⊎ (s ≡ state.Dead) → ⊥
not_start state.Between o x = elim x [ inl e ↦ cc | inr e ↦ cc ]
not_start state.Header o x = elim x [ inl e ↦ cc | inr e ↦ cc ]
not_start (state.Reading id) o x = elim x [ inl e ↦ cc | inr e ↦ cc ]
not_start (state.Skipping count header) o x = elim x [ inl e ↦ cc | inr e ↦ cc ]
not_start state.Broken o x = elim o [ inl e ↦ cc | inr e ↦ cc ]
not_start state.Dead o x = elim o [ inl e ↦ cc | inr e ↦ cc ]

module _ (begins stands : List ℕ → List Begun → Type 0) (frames : Frames) where
  pub starts_of : (frames.state ≡ state.Between) ⊎ (frames.state ≡ state.Header) → Comes begins stands frames → (length frames.body.raw.items < 10) × ((was : List ℕ) × stands was [])
  starts_of o k = elim k [
    | inl w ↦ (let q = at_start (begins w.0) (stands w.0) frames.limit frames.state frames.body w.1 o w.2 in let same = ap (λ (x : List ℕ). length x) q.0 in (omega (arith, q.1), (w.0, q.2)))
    | inr x ↦ absurd (not_start frames.state o x)
  ]

  -- a front came by which the state is known
  pub came_so : (s : State) → frames.state ≡ s → (s ≡ state.Broken → ⊥) → (s ≡ state.Dead → ⊥) → Comes begins stands frames → (was front : List ℕ) × ComesAt (begins was) (stands was) frames.limit s frames.body front
  came_so s e nb nd k = elim k [
    | inl w ↦ (w.0, w.1, state_comes (begins w.0) (stands w.0) frames.limit frames.state s frames.body w.1 e w.2)
    | inr (inl x) ↦ absurd (nb (sym e ∙ x))
    | inr (inr x) ↦ absurd (nd (sym e ∙ x))
  ]

pub begun_of : (begins stands : List Begun → Type 0) (limit id : ℕ) (body : Body) (front : List ℕ) → IsReading begins stands limit id body front → IsBegun begins stands limit id body front
begun_of begins stands limit id body front r = record { passed = r.passed; stands_for = r.awaits.stands_for }

pub stops_so : (new : Frames) (error : FeedErr) → new.body.raw.items ≡ [] → (error ≡ failure.Broken → new.state ≡ state.Broken) → (error ≡ failure.Memory → new.state ≡ state.Dead) → (error ≡ failure.Dead → new.state ≡ state.Dead) → Stops new error
stops_so new failure.Broken r b m d = (b refl, r)
stops_so new failure.Memory r b m d = (m refl, r)
stops_so new failure.Dead r b m d = (d refl, r)

-- an error says nothing of the state after it
pub err_so : (begins stands : List Begun → Type 0) (ends : MessageTree → List ℕ → Type 0) (rests : List ℕ → Type 0) (old mid new : Frames) (front piece : List ℕ) (error : FeedErr) → Goes begins stands ends rests old mid front piece (Err error) → Goes begins stands ends rests old new front piece (Err error)
err_so begins stands ends rests old mid new front piece failure.Broken g = g
err_so begins stands ends rests old mid new front piece failure.Memory g = g
err_so begins stands ends rests old mid new front piece failure.Dead g = absurd g

-- what follows from what holds of a result that is Ok
pub on_ok : {T E : Type 0} (r : Result T E) (P Q : Type 0) → OnOk r P → (P → Q) → OnOk r Q
on_ok (Ok x) P Q p f = f p
on_ok (Err e) P Q p f = tt
