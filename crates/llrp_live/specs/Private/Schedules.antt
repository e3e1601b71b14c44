-- Beside Calls/Schedules: words of private functions.
use Rattle.std.specs.Prelude.{ℕ, List, Option, Some, None, slice_set}
use Rattle.std.specs.List.{remove}
use Rattle.llrp_live.specs.declared.lines.Line.{Line}

-- the lines with this one in a place, or without that
abbrev pub with_at : List Line → ℕ → Option Line → List Line
with_at lines place (Some line) = slice_set lines place line
with_at lines place None = remove lines place
