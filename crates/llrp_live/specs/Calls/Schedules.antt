-- Which line of a script is due at a moment. Moments are in microseconds.
use Rattle.std.specs.Prelude.{◌≡◌, ℕ, ◌+◌, ◌-◌, ◌<◌, ◌≤◌, ◌==◌, nat_lt, Bool, false, List, [], ◌∷◌, ◌++◌, length, Option, Some, None, IfSome, if◌then◌else◌}
use Rattle.llrp_live.specs.declared.moments.Stage.{Stage}
use Rattle.llrp_live.specs.declared.moments.When.{When}
use Rattle.llrp_live.specs.declared.moments.When.TheVariants.{Frames, Accepted, Started}
use Rattle.llrp_live.specs.declared.lines.Line.{Line}
use Rattle.llrp_live.specs.declared.lines.Again.{Again}
use Rattle.llrp_session.specs.Calls.Due.{sooner}
use Rattle.llrp_live.specs.Calls.Moments.{moment_of, later}

-- ---- the next moment

-- when the next of these lines happens, as far as that is known
abbrev pub next_moment : Stage → List Line → Option ℕ
next_moment s [] = None
next_moment s (line ∷ lines) = sooner (moment_of s line.when) (next_moment s lines)

abbrev pub is_at : Option ℕ → ℕ → Bool
is_at None m = false
is_at (Some n) m = n == m

-- the line happens at this moment
abbrev pub happens_at : Stage → ℕ → Line → Bool
happens_at s m line = is_at (moment_of s line.when) m

-- how many lines stand before the first that happens at this moment
abbrev pub before_first : Stage → ℕ → List Line → ℕ
before_first s m [] = 0
before_first s m (line ∷ lines) = if happens_at s m line then 0 else before_first s m lines + 1

-- ---- a line that happens again

-- it waits so much longer
abbrev pub put_off : When → ℕ → When
put_off (Frames after now) period = Frames after now
put_off (Accepted wait) period = Accepted (later wait period)
put_off (Started wait) period = Started (later wait period)

abbrev pub again_with : Line → Option Again → Option Line
again_with line None = None
again_with line (Some again) =
    if nat_lt again.period again.left
    then Some (record { number = line.number; when = put_off line.when again.period; again = Some (record { period = again.period; left = again.left - again.period; done = later again.done 1 }); deed = line.deed })
    else None

-- the line as it waits once more: a period later, while its time is not over, having happened once more
abbrev pub again_of : Line → Option Line
again_of line = again_with line line.again

-- a line, if there is one
abbrev pub listed : Option Line → List Line
listed None = []
listed (Some line) = line ∷ []

-- ---- what is due

-- The line that is due was taken out: its moment is the next one and has come, and no line before it happens at that moment.
-- Where it happens again, it waits once more in its place.
pub record TakesDue (now : ℕ) (s : Stage) (old new : List Line) (line : Line) : Type 0 where
  pub before : List Line
  pub after : List Line
  pub moment : ℕ
  pub next : next_moment s old ≡ Some moment
  pub has_come : moment ≤ now
  pub first : length before ≡ before_first s moment old
  pub parts : old ≡ before ++ line ∷ after
  pub left : new ≡ before ++ (listed (again_of line) ++ after)

-- no line is due: the next moment is not known, or later
abbrev pub NoneIsDue : ℕ → Stage → List Line → Type 0
NoneIsDue now s lines = IfSome (next_moment s lines) (λ moment. now < moment)
