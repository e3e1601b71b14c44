-- What the lines of segments do that come in pieces.
use Rattle.std.specs.Prelude.{◌≡◌, ℕ, List, [], ◌++◌}
use Rattle.std.specs.List.{AllZip}
use Rattle.std.specs.String.{string_bytes}
use Rattle.llrp_capture.specs.declared.segment.Segment.{Segment}
use Rattle.llrp_listing.specs.declared.outcome.Verdict.{Verdict}
use Rattle.llrp_listing.specs.Lines.{NoLf, TextLine, lines_of}
use Rattle.llrp_sides.specs.declared.form.Form.{Form}
use Rattle.llrp_sides.specs.declared.line_reader.Lines.{Lines}
use Rattle.llrp_sides.specs.Calls.Captures.{IsWithoutCr, LineSays, ListsText, Runs, new_capture, time_after}
use Rattle.llrp_sides.specs.Private.Sessions.{InStep, TakesLine, capture_of}

-- After these bytes the lines that ended in them were taken, and this is listed of them; what is left is a line that was begun.
pub record Stands (form : Form) (port : ℕ) (bytes listing : List ℕ) (now : Lines) : Type 0 where
  pub lines : List TextLine
  pub unended : NoLf now.line.items
  pub cuts : (more : List ℕ) → lines_of (bytes ++ more) ≡ lines ++ lines_of (now.line.items ++ more)
  pub segments : List Segment
  pub says : AllZip (LineSays port) lines segments
  pub runs : Runs form segments new_capture (capture_of now.session listing)
  pub time : string_bytes now.session.time ≡ time_after [] segments
  pub form_is : now.session.form ≡ form
  pub port_is : now.session.port ≡ port

-- The line that was begun is taken, and another is begun.
pub record EndsLine (old new : Lines) (text0 text1 : List ℕ) : Type 0 where
  pub line : List ℕ
  pub without_cr : IsWithoutCr old.line.items line
  pub takes : TakesLine line old.session new.session text0 text1
  pub empty : new.line.items ≡ []

-- A piece is taken, after whatever bytes came and was listed before.
pub record TakesPiece (piece : List ℕ) (old new : Lines) (text0 text1 : List ℕ) : Type 0 where
  pub in_step : InStep new.session
  pub stands : (form : Form) (port : ℕ) (bytes done : List ℕ) → Stands form port bytes (done ++ text0) old → Stands form port (bytes ++ piece) (done ++ text1) new

-- all that came is listed, whatever came before
abbrev pub EndsText : Lines → (text0 text1 : List ℕ) → Verdict → Type 0
EndsText old text0 text1 verdict = (form : Form) (port : ℕ) (bytes done : List ℕ) → Stands form port bytes (done ++ text0) old → ListsText form port bytes (done ++ text1) verdict
