-- How a stream ends, by the front that came of its current frame.
use Rattle.std.proofs.Common.{◌≡◌, inl, inr, ℕ, ◌+◌, ◌<◌, List, ◌∷◌, arith, length}
use Rattle.llrp_tree.specs.OpenTree.{Begun}
use Rattle.llrp_stream.specs.declared.engine.body.Body.{Body}
use Rattle.llrp_stream.specs.declared.engine.frames.Frames.{Frames}
use Rattle.llrp_stream.specs.declared.engine.body_reader.BodyReader.{BodyReader}
use Rattle.llrp_stream.specs.declared.engine.body_reader.Stage.{Stage}
use Rattle.llrp_stream.specs.declared.engine.body_reader.Stage.TheVariants as stage
use Rattle.llrp_stream.specs.declared.state.State.{State}
use Rattle.llrp_stream.specs.declared.state.State.TheVariants as state
use Rattle.llrp_stream.specs.Cuts.{IsPartial}
use Rattle.llrp_stream.specs.Calls.Reading.{Are, Told}
use Rattle.llrp_stream.specs.Calls.Pieces.{BodyStands}
use Rattle.llrp_stream.specs.Calls.Frames.{IsReading, ComesAt, IsFrontOf}
use Rattle.llrp_stream.proofs.FramesLemmas.{state_comes, within}

abbrev any : List Begun → Type 0
any tree = Unit {0}

told_any : (s : Stage) (t : List Begun) → Told any any s t
told_any (stage.Leading next) t = tt
told_any (stage.Tail left) t = tt
told_any stage.Children t = tt

-- the same, whatever the listener received
module _ (begins stands : List Begun → Type 0) where
  abbrev are_any : (r : BodyReader) (front : List ℕ) → Are begins stands r front → Are any any r front
  are_any r front a = record { node = a.node; outer = a.outer; reads = a.reads; told = told_any r.stage (a.node ∷ a.outer) }

  abbrev stands_any : (body : Body) (front : List ℕ) → BodyStands begins stands body front → BodyStands any any body front
  stands_any body front s = record {
    are = are_any body.reader front s.are;
    raw = s.raw;
    few = s.few;
    held = elim s.held [ inl e ↦ inl e | inr h ↦ inr (record { more = h.more; undecided = h.undecided }) ];
  }

  reading_any : (limit id : ℕ) (body : Body) (front : List ℕ) → IsReading begins stands limit id body front → IsReading any any limit id body front
  reading_any limit id body front r = record {
    passed = r.passed;
    awaits = record { stands_for = stands_any body front r.awaits.stands_for; short = record { more = r.awaits.short.more; undecided = r.awaits.short.undecided } };
  }

  comes_any : (limit : ℕ) (s : State) (body : Body) (front : List ℕ) → ComesAt begins stands limit s body front → ComesAt any any limit s body front
  comes_any limit state.Between body front k = (k.0, k.1, tt)
  comes_any limit state.Header body front k = (k.0, k.1, k.2, k.3, tt)
  comes_any limit (state.Reading id) body front k = reading_any limit id body front k
  comes_any limit (state.Skipping count header) body front k = (k.0, k.1, k.2, k.3, tt)
  comes_any limit state.Broken body front k = absurd k
  comes_any limit state.Dead body front k = absurd k

  pub front_of : (frames : Frames) (front : List ℕ) → ComesAt begins stands frames.limit frames.state frames.body front → IsFrontOf frames front
  front_of frames front k = comes_any frames.limit frames.state frames.body front k

-- a front by which the state is known
pub front_at : (frames : Frames) (s : State) (front : List ℕ) → frames.state ≡ s → IsFrontOf frames front → ComesAt any any frames.limit s frames.body front
front_at frames s front e k = state_comes any any frames.limit frames.state s frames.body front e k

-- what came is less than a frame
pub reading_rest : (limit id : ℕ) (body : Body) (front : List ℕ) → ComesAt any any limit (state.Reading id) body front → (body.reader.at + length body.raw.items ≡ length front) × (0 < length front) × IsPartial front
reading_rest limit id body front k =
    let w = within any any body front k.awaits.stands_for in
    let more : length front < body.reader.octets = k.awaits.short.more in
    (w.all, omega (arith, k.passed.long), inr (omega (arith, k.passed.octets_are, k.passed.long), omega (arith, k.passed.octets_are)))
