-- What the steps of a session do to it.
use Rattle.std.specs.Prelude.{◌≡◌, ◌⊎◌, ℕ, ◌&&◌, Bool, true, false, List, [], ◌∷◌, ◌++◌, length, remove, slice_get, slice_set, Some}
use Rattle.std.specs.String.{string_bytes}
use Rattle.llrp_capture.specs.declared.segment.Segment.{Segment}
use Rattle.llrp_capture.specs.Calls.Connections.{IsNotThere}
use Rattle.llrp_capture.specs.Calls.Segments.{Says}
use Rattle.llrp_listing.specs.declared.outcome.Verdict.{Verdict}
use Rattle.llrp_listing.specs.Show.{verdict_of}
use Rattle.llrp_sides.specs.declared.form.Form.{Form}
use Rattle.llrp_sides.specs.declared.session.Pair.{Pair}
use Rattle.llrp_sides.specs.declared.session.Session.{Session}
use Rattle.llrp_sides.specs.Calls.Captures.{Capture, EndAll, IsOfNone, Takes, TakesIn, streams_of}
use Rattle.llrp_sides.specs.Calls.Firsts.{may_begin}
use Rattle.llrp_sides.specs.Calls.Pairs.{EndsBoth, IsNew, TakesOwn, are_lawful}

-- the connections that are open are those of the pairs, in their order
abbrev pub InStep : Session → Type 0
InStep session = session.connections.streams.items ≡ streams_of session.pairs.items

-- what came so far
abbrev pub capture_of : Session → (text : List ℕ) → Capture
capture_of session text = record { pairs = session.pairs.items; is_lawful = session.is_lawful; text = text }

-- A pair as new stands after the others.
pub record IsAdded (stream : ℕ) (old new : Session) : Type 0 where
  pub pair : Pair
  pub is_new : IsNew old.form pair
  pub stream_is : pair.stream ≡ stream
  pub items : new.pairs.items ≡ old.pairs.items ++ pair ∷ []
  pub same : new ≡ record old { pairs = new.pairs }

-- the last pair is new
pub record Adds (form : Form) (stream place : ℕ) (old new : List Pair) (pair : Pair) : Type 0 where
  pub none : IsNotThere (streams_of old) stream
  pub is_new : IsNew form pair
  pub items : new ≡ old ++ pair ∷ []
  pub place_is : place ≡ length old

-- The pair of a connection stands at a place; it was open, or is a new one.
pub record Opens (stream place : ℕ) (old new : Session) : Type 0 where
  pub pair : Pair
  pub at : slice_get new.pairs.items place ≡ Some pair
  pub stream_is : pair.stream ≡ stream
  pub from : (new.pairs.items ≡ old.pairs.items) ⊎ Adds old.form stream place old.pairs.items new.pairs.items pair
  pub in_step : InStep new
  pub same : new ≡ record old { connections = new.connections; pairs = new.pairs }

-- The pair at a place takes a segment.
pub record TakesAt (segment : Segment) (place : ℕ) (old new : Session) (now : Pair) (text0 text1 : List ℕ) : Type 0 where
  pub pair : Pair
  pub at : slice_get old.pairs.items place ≡ Some pair
  pub takes : TakesOwn segment pair now text0 text1
  pub items : new.pairs.items ≡ slice_set old.pairs.items place now
  pub same : new ≡ record old { pairs = new.pairs }

-- Both sides of the pair at a place end.
pub record EndsAt (time : List ℕ) (place : ℕ) (old new : Session) (text0 text1 : List ℕ) : Type 0 where
  pub pair : Pair
  pub at : slice_get old.pairs.items place ≡ Some pair
  pub gone : Pair
  pub ends : EndsBoth time pair gone text0 text1
  pub items : new.pairs.items ≡ slice_set old.pairs.items place gone
  pub is_lawful : new.is_lawful ≡ (old.is_lawful && are_lawful gone)
  pub same : new ≡ record old { pairs = new.pairs; is_lawful = new.is_lawful }

-- They end, and the pair is no longer there.
pub record Closes (time : List ℕ) (place : ℕ) (old new : Session) (text0 text1 : List ℕ) : Type 0 where
  pub pair : Pair
  pub at : slice_get old.pairs.items place ≡ Some pair
  pub gone : Pair
  pub ends : EndsBoth time pair gone text0 text1
  pub items : new.pairs.items ≡ remove old.pairs.items place
  pub in_step : InStep new
  pub is_lawful : new.is_lawful ≡ (old.is_lawful && are_lawful gone)
  pub form : new.form ≡ old.form
  pub port : new.port ≡ old.port
  pub time_is : new.time ≡ old.time

-- whether a segment is of a connection that is open, or may begin one
abbrev pub Heeds : Segment → List Pair → Bool → Type 0
Heeds segment pairs true = (may_begin segment ≡ true) ⊎ (IsOfNone segment pairs → ⊥)
Heeds segment pairs false = IsOfNone segment pairs × (may_begin segment ≡ false)

-- A segment goes to its own connection.
pub record Goes (segment : Segment) (old new : Session) (text0 text1 : List ℕ) : Type 0 where
  pub takes : TakesIn old.form segment (capture_of old text0) (capture_of new text1)
  pub in_step : InStep new
  pub form : new.form ≡ old.form
  pub port : new.port ≡ old.port
  pub time_is : new.time ≡ old.time

-- A segment is taken.
pub record TakesNext (segment : Segment) (old new : Session) (text0 text1 : List ℕ) : Type 0 where
  pub takes : Takes old.form segment (capture_of old text0) (capture_of new text1)
  pub in_step : InStep new
  pub time : string_bytes new.time ≡ segment.time.now
  pub form : new.form ≡ old.form
  pub port : new.port ≡ old.port

-- a line says a segment, which is taken
abbrev pub TakesLine : (line : List ℕ) → (old new : Session) → (text0 text1 : List ℕ) → Type 0
TakesLine line old new text0 text1 = (segment : Segment) × Says old.port line segment × TakesNext segment old new text0 text1

-- all that is open ends, with the verdict on all that came
abbrev pub EndsOpen : Session → (text0 text1 : List ℕ) → Verdict → Type 0
EndsOpen session text0 text1 verdict = (lawful : Bool) × EndAll (string_bytes session.time) session.pairs.items session.is_lawful lawful text0 text1 × (verdict ≡ verdict_of lawful)
