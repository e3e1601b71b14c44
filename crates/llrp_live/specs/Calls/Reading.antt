-- What reading a script in pieces has read.
use Rattle.std.specs.Prelude.{◌≡◌, ℕ, List, ◌++◌}
use Rattle.llrp_live.specs.declared.script_reader.ScriptReader.{ScriptReader}
use Rattle.llrp_answers.specs.Calls.Answers.{lines_in}
use Rattle.llrp_live.specs.Calls.Lines.{AreLines}

-- These octets are the lines so far with what stands below them, of which the LFs were counted, and what has come of the next.
abbrev pub HasRead : List ℕ → ScriptReader → Type 0
HasRead bytes s = (front : List ℕ) × AreLines 0 s.lines.items s.sent.items front × (s.reached.count ≡ lines_in front) × (bytes ≡ front ++ s.held.items)
