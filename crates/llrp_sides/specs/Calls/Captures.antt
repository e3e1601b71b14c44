-- All of a capture: each segment goes to its own connection, and what is listed of them follows in the order of the segments.
use Rattle.std.specs.Prelude.{◌≡◌, ◌⊎◌, ℕ, ◌&&◌, Bool, true, false, List, [], ◌∷◌, ◌++◌, map}
use Rattle.std.specs.List.{AllZip}
use Rattle.llrp_capture.specs.declared.segment.Segment.{Segment}
use Rattle.llrp_capture.specs.Calls.Connections.{IsNotThere}
use Rattle.llrp_capture.specs.Calls.Segments.{Says}
use Rattle.llrp_listing.specs.declared.outcome.Verdict.{Verdict}
use Rattle.llrp_listing.specs.Lines.{TextLine, Ended, Unended, lines_of}
use Rattle.llrp_listing.specs.Show.{verdict_of}
use Rattle.llrp_sides.specs.declared.form.Form.{Form}
use Rattle.llrp_sides.specs.declared.session.Pair.{Pair}
use Rattle.llrp_sides.specs.Calls.Firsts.{may_begin}
use Rattle.llrp_sides.specs.Calls.Pairs.{EndsBoth, IsNew, TakesOwn, are_lawful, is_over}

-- What came of a capture: the connections that are open, whether all that ended were lawful, and what is listed.
pub record Capture : Type 0 where
  pub pairs : List Pair
  pub is_lawful : Bool
  pub text : List ℕ

-- nothing came
abbrev pub new_capture : Capture
new_capture = record { pairs = []; is_lawful = true; text = [] }

abbrev pub streams_of : List Pair → List ℕ
streams_of pairs = map (λ (pair : Pair). pair.stream) pairs

-- ---- a segment

-- no connection that is open has the number of this segment's
abbrev pub IsOfNone : Segment → List Pair → Type 0
IsOfNone segment pairs = IsNotThere (streams_of pairs) segment.stream

-- A segment begins a connection, which is the last one then.
pub record Begins (form : Form) (segment : Segment) (old before : List Pair) (pair : Pair) (after : List Pair) : Type 0 where
  pub none : IsOfNone segment old
  pub may : may_begin segment ≡ true
  pub new : IsNew form pair
  pub before_are : before ≡ old
  pub after_are : after ≡ []

-- a segment's own connection stands between these: it is open, or begins
abbrev pub Finds : Form → Segment → (old before : List Pair) → Pair → (after : List Pair) → Type 0
Finds form segment old before pair after = (pair.stream ≡ segment.stream) × ((old ≡ before ++ pair ∷ after) ⊎ Begins form segment old before pair after)

-- a connection stays where it is, or if it is over, both sides end and it is open no more
abbrev pub Goes : (is_over : Bool) → (time : List ℕ) → (before : List Pair) → Pair → (after : List Pair) → (was_lawful : Bool) → (text : List ℕ) → Capture → Type 0
Goes false time before pair after was_lawful text new = new ≡ record { pairs = before ++ pair ∷ after; is_lawful = was_lawful; text = text }
Goes true time before pair after was_lawful text new =
    (gone : Pair) × EndsBoth time pair gone text new.text × (new.pairs ≡ before ++ after) × (new.is_lawful ≡ (was_lawful && are_lawful gone))

-- A segment goes to its own connection, and all others stay as they are.
pub record TakesIn (form : Form) (segment : Segment) (old new : Capture) : Type 0 where
  pub before : List Pair
  pub pair : Pair
  pub after : List Pair
  pub finds : Finds form segment old.pairs before pair after
  pub now : Pair
  pub text : List ℕ
  pub takes : TakesOwn segment pair now old.text text
  pub goes : Goes (is_over segment now) segment.time.now before now after old.is_lawful text new

-- A segment of no connection that is open, and which may begin none, changes nothing.
pub record PassesOver (segment : Segment) (old new : Capture) : Type 0 where
  pub none : IsOfNone segment old.pairs
  pub may_not : may_begin segment ≡ false
  pub same : new ≡ old

abbrev pub Takes : Form → Segment → (old new : Capture) → Type 0
Takes form segment old new = PassesOver segment old new ⊎ TakesIn form segment old new

-- ---- all of them

-- these segments came, one after the other
abbrev pub Runs : Form → List Segment → (old new : Capture) → Type 0
Runs form [] old new = new ≡ old
Runs form (segment ∷ segments) old new = (mid : Capture) × Takes form segment old mid × Runs form segments mid new

-- both sides of each connection end at this time, one connection after the other
abbrev pub EndAll : (time : List ℕ) → List Pair → (was_lawful is_lawful : Bool) → (text0 text1 : List ℕ) → Type 0
EndAll time [] was_lawful is_lawful text0 text1 = (is_lawful ≡ was_lawful) × (text1 ≡ text0)
EndAll time (pair ∷ pairs) was_lawful is_lawful text0 text1 = (gone : Pair) × (text : List ℕ) × EndsBoth time pair gone text0 text × EndAll time pairs (was_lawful && are_lawful gone) is_lawful text text1

-- the time of the last segment, or this one
abbrev pub time_after : (time : List ℕ) → List Segment → List ℕ
time_after time [] = time
time_after time (segment ∷ segments) = time_after segment.time.now segments

-- This is listed of all segments of a capture, where what is open at the end ends at the time of the last one; and the verdict on all of it.
pub record Lists (form : Form) (segments : List Segment) (listing : List ℕ) (verdict : Verdict) : Type 0 where
  pub last : Capture
  pub runs : Runs form segments new_capture last
  pub is_lawful : Bool
  pub ends : EndAll (time_after [] segments) last.pairs last.is_lawful is_lawful last.text listing
  pub verdict_is : verdict ≡ verdict_of is_lawful

-- ---- the lines

-- a line without its LF
abbrev pub octets_of : TextLine → List ℕ
octets_of (Ended line) = line
octets_of (Unended line) = line

-- a CR (13) at the end of a line is left out
abbrev pub IsWithoutCr : (line text : List ℕ) → Type 0
IsWithoutCr line text = (line ≡ text ++ 13 ∷ []) ⊎ ((line ≡ text) × ((front : List ℕ) → line ≡ front ++ 13 ∷ [] → ⊥))

-- a line says a segment, where the reader has this port
abbrev pub LineSays : (port : ℕ) → TextLine → Segment → Type 0
LineSays port line segment = (text : List ℕ) × IsWithoutCr (octets_of line) text × Says port text segment

-- Each line of a text says a segment, and this is listed of them in that order.
pub record ListsText (form : Form) (port : ℕ) (text listing : List ℕ) (verdict : Verdict) : Type 0 where
  pub segments : List Segment
  pub says : AllZip (LineSays port) (lines_of text) segments
  pub lists : Lists form segments listing verdict
