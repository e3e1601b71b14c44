-- Beside Calls/Reading: words of private functions.
use Rattle.std.specs.Prelude.{◌≡◌, ℕ, ◌+◌, List, ◌++◌, ◌∷◌, []}
use Rattle.llrp_answers.specs.Calls.Answers.{lines_in}
use Rattle.llrp_live.specs.declared.lines.Line.{Line}
use Rattle.llrp_live.specs.declared.script_reader.Reached.{Reached}
use Rattle.llrp_live.specs.declared.script_reader.Sent.{Sent}
use Rattle.llrp_live.specs.Calls.Lines.{IsLine, IsBelow, AreLines}

-- What was read: lines, what those of them send that send messages, and how many LFs.
pub record Taken : Type 0 where
  pub lines : List Line
  pub sent : List Sent
  pub count : ℕ

abbrev pub taken : List Line → List Sent → Reached → Taken
taken lines sent reached = record { lines = lines; sent = sent; count = reached.count }

-- one line more was taken, with what stands below it
abbrev pub TookBlock : List ℕ → List ℕ → Taken → Taken → Type 0
TookBlock first below old new =
    (line : Line) × (own : List Sent) × IsLine line first × (line.number ≡ old.count + 1) × IsBelow line own below
    × (new.count ≡ old.count + lines_in (first ++ 10 ∷ below))
    × (new.lines ≡ old.lines ++ line ∷ []) × (new.sent ≡ old.sent ++ own)

-- the lines of a front of the text were taken, and this follows it
abbrev pub TookLines : List ℕ → List ℕ → Taken → Taken → Type 0
TookLines text rest old new =
    (more : List Line) × (sent : List Sent) × (front : List ℕ) × AreLines old.count more sent front × (new.count ≡ old.count + lines_in front) × (text ≡ front ++ rest)
    × (new.lines ≡ old.lines ++ more) × (new.sent ≡ old.sent ++ sent)
