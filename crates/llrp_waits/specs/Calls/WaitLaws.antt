-- No course waits longer than its waits, whatever comes meanwhile.
use Rattle.std.specs.Prelude.{◌≡◌, ◌⊎◌, ℕ, ◌+◌, ◌≤◌, Bool, false, true, List, [], ◌∷◌, Option, None, Some}
use Rattle.llrp_waits.specs.declared.head.Head.{Head}
use Rattle.llrp_waits.specs.declared.wait.Wait.{Wait}
use Rattle.llrp_waits.specs.declared.waits.Cut.{Cut}
use Rattle.llrp_waits.specs.declared.waits.Waits.{Waits}
use Rattle.llrp_waits.specs.Calls.Heads.{answers, is_awaited}
use Rattle.llrp_waits.specs.Calls.Waits.{asks, awaited_wait, frame_wait, hears, is_own, left, left_of, left_to_write, silence_wait, takes, writing_wait}

-- ---- what is open

-- a read waits for one of these
abbrev pub IsOpen : Wait → Waits → Type 0
IsOpen wait w = (awaited_wait w ≡ Some wait) ⊎ ((silence_wait w ≡ Some wait) ⊎ ((frame_wait w ≡ Some wait) ⊎ (w.whole ≡ Some wait)))

-- there is a bound, and it is no greater
abbrev pub IsWithin : ℕ → Option ℕ → Type 0
IsWithin most None = ⊥
IsWithin most (Some n) = n ≤ most

abbrev pub EachWaitBounds : Type 0
EachWaitBounds = (w : Waits) (wait : Wait) (now : ℕ) → IsOpen wait w → IsWithin (left_of now wait) (left now w)

abbrev pub OverIsOver : Type 0
OverIsOver = (w : Waits) (wait : Wait) (now : ℕ) → IsOpen wait w → wait.since + wait.most ≤ now → left now w ≡ Some 0

abbrev pub WritesInTime : Type 0
WritesInTime = (w : Waits) (wait : Wait) (now : ℕ) → (writing_wait w ≡ Some wait) ⊎ (w.whole ≡ Some wait) → IsWithin (left_of now wait) (left_to_write now w)

-- ---- courses

pub data Event : Type 0 where
  Asked : Head → Event  -- a message was sent
  Took : Cut → Event  -- octets came that end so
  Heard : Head → Event  -- a message is whole with them

pub record Turn : Type 0 where
  pub at : ℕ  -- the moment
  pub event : Event

abbrev pub after_event : Event → ℕ → Waits → Waits
after_event (Asked request) now w = asks request now w
after_event (Took cut) now w = takes cut now w
after_event (Heard head) now w = hears head now w

abbrev pub after : Turn → Waits → Waits
after turn w = after_event turn.event turn.at w

-- from a moment to another no more passes than may
abbrev pub Passes : Option ℕ → ℕ → ℕ → Type 0
Passes None before now = before ≤ now
Passes (Some most) before now = (before ≤ now) × (now ≤ before + most)

-- from this moment on each turn comes within the time that is left
abbrev pub KeepsTime : ℕ → Waits → List Turn → Type 0
KeepsTime before w [] = Unit {0}
KeepsTime before w (turn ∷ turns) = Passes (left before w) before turn.at × KeepsTime turn.at (after turn w) turns

-- the moment of the last turn
abbrev pub last_moment : ℕ → List Turn → ℕ
last_moment before [] = before
last_moment before (turn ∷ turns) = last_moment turn.at turns

-- a wait is open until the last turn
abbrev pub StaysOpen : Wait → Waits → List Turn → Type 0
StaysOpen wait w [] = Unit {0}
StaysOpen wait w (turn ∷ turns) = IsOpen wait w × StaysOpen wait (after turn w) turns

abbrev pub NoCourseWaitsLonger : Type 0
NoCourseWaitsLonger = (wait : Wait) (w : Waits) (turns : List Turn) (now : ℕ) → StaysOpen wait w turns → KeepsTime now w turns → wait.since ≤ now → now ≤ wait.since + wait.most
    → last_moment now turns ≤ wait.since + wait.most

-- ---- a request without an answer

abbrev pub Answers : Head → Event → Bool
Answers request (Asked other) = is_awaited other
Answers request (Took cut) = false
Answers request (Heard head) = answers request head

-- nothing answers it, and nothing else is asked for
abbrev pub NoneAnswers : Head → List Turn → Type 0
NoneAnswers request [] = Unit {0}
NoneAnswers request (turn ∷ turns) = (Answers request turn.event ≡ false) × NoneAnswers request turns

abbrev pub NoAnswerInTime : Type 0
NoAnswerInTime = (request : Head) (w : Waits) (turns : List Turn) (now most : ℕ) → is_own w.awaited ≡ false → is_awaited request ≡ true → w.bounds.answer ≡ Some most → NoneAnswers request turns
    → KeepsTime now (asks request now w) turns → last_moment now turns ≤ now + most

-- ---- the wait as a whole

abbrev pub WholeInTime : Type 0
WholeInTime = (wait : Wait) (w : Waits) (turns : List Turn) (now : ℕ) → w.whole ≡ Some wait → KeepsTime now w turns → wait.since ≤ now → now ≤ wait.since + wait.most
    → last_moment now turns ≤ wait.since + wait.most
