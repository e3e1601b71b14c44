-- What the engine's listener received, in the words of another listener.
use Rattle.std.proofs.Common.{◌≡◌, ◌⊎◌, inl, inr, ℕ, ◌<◌, ◌≤◌, List, [], ◌∷◌, length, refl, sym, ap, arith}
use Rattle.llrp_tree.specs.OpenTree.{Begun}
use Rattle.llrp_stream.specs.declared.item.FeedErr.TheVariants as failure
use Rattle.llrp_stream.specs.declared.engine.body.Body.{Body}
use Rattle.llrp_stream.specs.declared.engine.body_reader.BodyReader.{BodyReader}
use Rattle.llrp_stream.specs.declared.engine.body_reader.Stage.{Stage}
use Rattle.llrp_stream.specs.declared.engine.body_reader.Stage.TheVariants as stage
use Rattle.llrp_stream.specs.declared.state.State.{State}
use Rattle.llrp_stream.specs.declared.state.State.TheVariants as state
use Rattle.llrp_stream.specs.declared.engine.frames.Frames.{Frames}
use Rattle.llrp_stream.specs.Cuts.{IsPartial}
use Rattle.llrp_stream.specs.Calls.Frames.{ComesAt, ComesTo, IsIdle, Stops, held_at, held_of, limit_of, raw_of}
use Rattle.llrp_stream.specs.Calls.Pieces.{BodyStands, Awaits, IsShort}
use Rattle.llrp_stream.specs.Calls.Reading.{Are, Told}
use Rattle.llrp_stream.proofs.EngineHeld.{held_limit}
use Rattle.llrp_stream.proofs.FramesLemmas.{state_comes}

module _ (b0 s0 b1 s1 : List Begun → Type 0) (begins : (t : List Begun) → b0 t → b1 t) (stands : (t : List Begun) → s0 t → s1 t) where
  told_so : (s : Stage) (t : List Begun) → Told b0 s0 s t → Told b1 s1 s t
  told_so (stage.Leading next) t x = begins t x
  told_so (stage.Tail left) t x = begins t x
  told_so stage.Children t x = stands t x

  are_so : (r : BodyReader) (front : List ℕ) → Are b0 s0 r front → Are b1 s1 r front
  are_so r front a = record { node = a.node; outer = a.outer; reads = a.reads; told = told_so r.stage (a.node ∷ a.outer) a.told }

  short_so : (r : BodyReader) (front : List ℕ) (a : Are b0 s0 r front) → IsShort b0 s0 r front a → IsShort b1 s1 r front (are_so r front a)
  unfolding are_so
  short_so r front a s = record { more = s.more; undecided = s.undecided }

  held_so : (body : Body) (front : List ℕ) (a : Are b0 s0 body.reader front) → (body.raw.items ≡ []) ⊎ IsShort b0 s0 body.reader front a → (body.raw.items ≡ []) ⊎ IsShort b1 s1 body.reader front (are_so body.reader front a)
  held_so body front a o = elim o [ inl e ↦ inl e | inr s ↦ inr (short_so body.reader front a s) ]

  stands_so : (body : Body) (front : List ℕ) → BodyStands b0 s0 body front → BodyStands b1 s1 body front
  stands_so body front s = record { are = are_so body.reader front s.are; raw = s.raw; few = s.few; held = held_so body front s.are s.held }

  awaits_so : (body : Body) (front : List ℕ) → Awaits b0 s0 body front → Awaits b1 s1 body front
  unfolding stands_so
  awaits_so body front a = record { stands_for = stands_so body front a.stands_for; short = short_so body.reader front a.stands_for.are a.short }

  comes_at_so : (limit : ℕ) (s : State) (body : Body) (front : List ℕ) → ComesAt b0 s0 limit s body front → ComesAt b1 s1 limit s body front
  comes_at_so limit state.Between body front k = (k.0, k.1, stands [] k.2)
  comes_at_so limit state.Header body front k = (k.0, k.1, k.2, k.3, stands [] k.4)
  comes_at_so limit (state.Reading id) body front k = record { passed = k.passed; awaits = awaits_so body front k.awaits }
  comes_at_so limit (state.Skipping count header) body front k = (k.0, k.1, k.2, k.3, stands [] k.4)
  comes_at_so limit state.Broken body front k = absurd k
  comes_at_so limit state.Dead body front k = absurd k

  -- a front came, in the words of one listener and of another
  pub comes_so : (frames : Frames) (front : List ℕ) → ComesTo b0 s0 frames front → ComesTo b1 s1 frames front
  comes_so frames front k = comes_at_so _ _ _ front k

module _ (begins stands : List Begun → Type 0) where
  told_one : (s : Stage) (t : List Begun) → Told begins stands s t → (begins t) ⊎ (stands t)
  told_one (stage.Leading next) t x = inl x
  told_one (stage.Tail left) t x = inl x
  told_one stage.Children t x = inr x

  tree_told_at : (limit : ℕ) (s : State) (body : Body) (front : List ℕ) → ComesAt begins stands limit s body front → (t : List Begun) × ((begins t) ⊎ (stands t))
  tree_told_at limit state.Between body front k = ([], inr k.2)
  tree_told_at limit state.Header body front k = ([], inr k.4)
  tree_told_at limit (state.Reading id) body front k = (let a = k.awaits.stands_for.are in (a.node ∷ a.outer, told_one body.reader.stage (a.node ∷ a.outer) a.told))
  tree_told_at limit (state.Skipping count header) body front k = ([], inr k.4)
  tree_told_at limit state.Broken body front k = absurd k
  tree_told_at limit state.Dead body front k = absurd k

  -- there is a tree that was received
  pub tree_told : (frames : Frames) (front : List ℕ) → ComesTo begins stands frames front → (t : List Begun) × ((begins t) ⊎ (stands t))
  tree_told frames front k = tree_told_at _ _ _ front k

  partial_at : (limit : ℕ) (s : State) (body : Body) (front : List ℕ) → ComesAt begins stands limit s body front → IsPartial front
  partial_at limit state.Between body front k = inl (let none = ap (λ (x : List ℕ). length x) k.0 in omega arith)
  partial_at limit state.Header body front k = k.3
  partial_at limit (state.Reading id) body front k =
      let more : length front < body.reader.octets = k.awaits.short.more in
      inr (omega (arith, k.passed.octets_are, k.passed.long), omega (arith, k.passed.octets_are))
  partial_at limit (state.Skipping count header) body front k = inr (omega (arith, k.0.octets_are, k.1, k.2), omega (arith, k.0.octets_are, k.0.count_is, k.2))
  partial_at limit state.Broken body front k = absurd k
  partial_at limit state.Dead body front k = absurd k

  -- what came is less than a frame
  pub comes_partial : (frames : Frames) (front : List ℕ) → ComesTo begins stands frames front → IsPartial front
  comes_partial frames front k = partial_at _ _ _ front k

  -- where no frame is begun, nothing of one came
  pub comes_idle : (frames : Frames) → IsIdle frames → stands [] → ComesTo begins stands frames []
  comes_idle frames i st = state_comes begins stands _ state.Between _ _ [] (sym i.0) (refl, i.1, st)

  few_at : (limit : ℕ) (s : State) (body : Body) (front : List ℕ) → ComesAt begins stands limit s body front → length body.raw.items ≤ 16
  few_at limit state.Between body front k = let none = ap (λ (x : List ℕ). length x) k.1 in omega (arith, none)
  few_at limit state.Header body front k = let same = ap (λ (x : List ℕ). length x) k.0 in omega (arith, same, k.2)
  few_at limit (state.Reading id) body front k = let few = k.awaits.stands_for.few in omega (arith, few)
  few_at limit (state.Skipping count header) body front k = let none = ap (λ (x : List ℕ). length x) k.3 in omega (arith, none)
  few_at limit state.Broken body front k = absurd k
  few_at limit state.Dead body front k = absurd k

  -- few octets are kept as they are, and with the open nodes they are within the limit
  pub few_kept : (frames : Frames) (front : List ℕ) → 10 ≤ limit_of frames → ComesTo begins stands frames front → (length (raw_of frames) ≤ 16) × (held_of frames ≤ limit_of frames)
  few_kept frames front least k = (few_at frames.limit frames.state frames.body front k, held_limit begins stands frames.limit frames.state frames.body front least k)

-- and none after a break
pub none_kept : (frames : Frames) → Stops frames failure.Broken → (raw_of frames ≡ []) × (held_of frames ≡ 0)
none_kept frames s = (s.1, ap (λ (x : State). held_at x frames.body) s.0)
