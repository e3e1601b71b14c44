-- What a script expects of its client. Moments are in microseconds.
use Rattle.std.specs.Prelude.{ℕ, ◌==◌, nat_lt, not, Bool, List, [], ◌∷◌, Option, Some, None, if◌then◌else◌}
use Rattle.llrp_schema.specs.declared.kinds.MsgKind.{MsgKind}
use Rattle.llrp_schema.specs.declared.kinds.Kind.TheVariants.{Message}
use Rattle.llrp_schema.specs.Schema.{number_of}
use Rattle.llrp_session.specs.Calls.Due.{sooner}
use Rattle.llrp_live.specs.declared.expectations.Expectation.{Expectation}

-- it is expected as before after a message of this kind came: it is of another
abbrev pub is_awaited_after : MsgKind → Expectation → Bool
is_awaited_after kind e = not (number_of (Message e.kind) == number_of (Message kind))

-- the line of the first whose time is over at a moment
abbrev pub first_over : ℕ → List Expectation → Option ℕ
first_over now [] = None
first_over now (e ∷ es) = if nat_lt e.until now then Some e.line else first_over now es

-- the line of the first
abbrev pub first_line : List Expectation → Option ℕ
first_line [] = None
first_line (e ∷ es) = Some e.line

-- the last moment of the one that has to come first
abbrev pub soonest : List Expectation → Option ℕ
soonest [] = None
soonest (e ∷ es) = sooner (Some e.until) (soonest es)
