-- What the two sides of a connection take.
use Rattle.std.specs.Prelude.{◌≡◌, ℕ, ◌||◌, ◌&&◌, Bool, false, List}
use Rattle.llrp_capture.specs.declared.segment.Segment.{Segment}
use Rattle.llrp_capture.specs.declared.segment.Sender.{Sender}
use Rattle.llrp_capture.specs.declared.segment.Sender.TheVariants.{Reader, Client}
use Rattle.llrp_sides.specs.declared.form.Form.{Form}
use Rattle.llrp_sides.specs.declared.session.Pair.{Pair}
use Rattle.llrp_sides.specs.declared.stamp.Stamp.{Stamp}
use Rattle.llrp_sides.specs.Calls.Firsts.{is_last, is_rst}
use Rattle.llrp_sides.specs.Calls.Sides.{EndsSide, IsNewSide, TakesSegment}

-- Nothing came of either side.
pub record IsNew (form : Form) (pair : Pair) : Type 0 where
  pub reader : IsNewSide form pair.reader
  pub client : IsNewSide form pair.client
  pub reader_has_ended : pair.reader_has_ended ≡ false
  pub client_has_ended : pair.client_has_ended ≡ false

-- a stamp has this time, connection and side
abbrev pub IsStamp : (time : List ℕ) → (stream : ℕ) → Sender → Stamp → Type 0
IsStamp time stream from stamp = (stamp.time.now ≡ time) × (stamp.stream ≡ stream) × (stamp.from ≡ from)

-- a segment goes to this side, which ends with it if its flags say so, and nothing else of the connection changes
abbrev pub GoesTo : Sender → Stamp → Segment → (old new : Pair) → (text0 text1 : List ℕ) → Type 0
GoesTo Reader stamp segment old new text0 text1 =
    TakesSegment stamp segment old.reader new.reader text0 text1 × (new ≡ record old { reader = new.reader; reader_has_ended = old.reader_has_ended || is_last segment.flags })
GoesTo Client stamp segment old new text0 text1 =
    TakesSegment stamp segment old.client new.client text0 text1 × (new ≡ record old { client = new.client; client_has_ended = old.client_has_ended || is_last segment.flags })

-- A segment goes to the side that sent it, with its time, connection and side.
pub record TakesOwn (segment : Segment) (old new : Pair) (text0 text1 : List ℕ) : Type 0 where
  pub stamp : Stamp
  pub is : IsStamp segment.time.now segment.stream segment.from stamp
  pub goes : GoesTo segment.from stamp segment old new text0 text1

-- with a segment the connection is over: it has RST, or both sides have ended
abbrev pub is_over : Segment → Pair → Bool
is_over segment pair = is_rst segment.flags || (pair.reader_has_ended && pair.client_has_ended)

-- Both sides end, the client first, at this time.
pub record EndsBoth (time : List ℕ) (old new : Pair) (text0 text1 : List ℕ) : Type 0 where
  pub between : List ℕ
  pub first : Stamp
  pub first_is : IsStamp time old.stream Client first
  pub client : EndsSide first old.client new.client text0 between
  pub second : Stamp
  pub second_is : IsStamp time old.stream Reader second
  pub reader : EndsSide second old.reader new.reader between text1

-- each frame of both sides is a message, and none is missing
abbrev pub are_lawful : Pair → Bool
are_lawful pair = pair.reader.is_lawful && pair.client.is_lawful
