-- What a client waits for, since when, and for how long. A moment is a number of milliseconds of one clock.
use Rattle.std.specs.Prelude.{ℕ, ◌-◌, ◌&&◌, not, min, Bool, false, true, if◌then◌else◌, Option, None, Some}
use Rattle.llrp_waits.specs.declared.head.Head.{Head}
use Rattle.llrp_waits.specs.declared.wait.Wait.{Wait}
use Rattle.llrp_waits.specs.declared.waits.Awaited.{Awaited}
use Rattle.llrp_waits.specs.declared.waits.Awaited.TheVariants.{Acceptance, Answer, Own, Reports}
use Rattle.llrp_waits.specs.declared.waits.Bounds.{Bounds}
use Rattle.llrp_waits.specs.declared.waits.Cut.{Cut}
use Rattle.llrp_waits.specs.declared.waits.Cut.TheVariants.{Between, InNew, InSame}
use Rattle.llrp_waits.specs.declared.waits.Waits.{Waits}
use Rattle.llrp_waits.specs.Calls.Heads.{answers, is_awaited, is_report}

-- ---- a wait

-- what is left of it at a moment; it is over where that is 0
abbrev pub left_of : ℕ → Wait → ℕ
left_of now wait = wait.most - (now - wait.since)

-- None is without end
abbrev pub left_in : ℕ → Option Wait → Option ℕ
left_in now None = None
left_in now (Some wait) = Some (left_of now wait)

abbrev pub sooner : Option ℕ → Option ℕ → Option ℕ
sooner (Some a) (Some b) = Some (min a b)
sooner (Some a) None = Some a
sooner None b = b

-- a wait that began, if it has a bound
abbrev pub begun_wait : Option ℕ → Option ℕ → Option Wait
begun_wait (Some since) (Some most) = Some (record { since = since; most = most })
begun_wait (Some since) None = None
begun_wait None most = None

-- ---- the waits of a client

abbrev pub first_waits : Bounds → ℕ → Waits
first_waits bounds now = record { bounds = bounds; awaited = Acceptance; since = now; heard = now; begun = None; writing = None; whole = None }

abbrev pub bound_of : Bounds → Awaited → Option ℕ
bound_of bounds Acceptance = bounds.answer
bound_of bounds (Answer request) = bounds.answer
bound_of bounds Reports = bounds.report
bound_of bounds Own = bounds.answer

-- for what is awaited, for any octet, for the rest of a frame that began, and that what is written is taken
abbrev pub awaited_wait : Waits → Option Wait
awaited_wait w = begun_wait (Some w.since) (bound_of w.bounds w.awaited)

abbrev pub silence_wait : Waits → Option Wait
silence_wait w = begun_wait (Some w.heard) w.bounds.silence

abbrev pub frame_wait : Waits → Option Wait
frame_wait w = begun_wait w.begun w.bounds.frame

abbrev pub writing_wait : Waits → Option Wait
writing_wait w = begun_wait w.writing w.bounds.write

-- how long a read may last at a moment: no longer than any of these
abbrev pub left : ℕ → Waits → Option ℕ
left now w = sooner (sooner (left_in now (awaited_wait w)) (left_in now (silence_wait w))) (sooner (left_in now (frame_wait w)) (left_in now w.whole))

-- and a write
abbrev pub left_to_write : ℕ → Waits → Option ℕ
left_to_write now w = sooner (left_in now (writing_wait w)) (left_in now w.whole)

-- ---- what happens

abbrev pub within : Option Wait → Waits → Waits
within whole w = record w { whole = whole }

-- the client finds by itself what it awaits from now on
abbrev pub awaits : ℕ → ℕ → Waits → Waits
awaits most now w = record w { bounds = record w.bounds { answer = Some most }; awaited = Own; since = now }

abbrev pub is_own : Awaited → Bool
is_own Acceptance = false
is_own (Answer request) = false
is_own Reports = false
is_own Own = true

-- a message was sent
abbrev pub asks : Head → ℕ → Waits → Waits
asks request now w = if not (is_own w.awaited) && is_awaited request then record w { awaited = Answer request; since = now } else w

-- since when a frame comes that is not whole
abbrev pub frame_since : Cut → ℕ → Option ℕ → Option ℕ
frame_since Between now before = None
frame_since InNew now before = Some now
frame_since InSame now before = before

-- octets came
abbrev pub takes : Cut → ℕ → Waits → Waits
takes cut now w = record w { heard = now; begun = frame_since cut now w.begun }

-- what ends the wait for what is awaited; the wait for acceptance ends when the client asks for something, and the client's own when it says so
abbrev pub ends : Awaited → Head → Bool
ends Acceptance head = false
ends (Answer request) head = answers request head
ends Reports head = is_report head
ends Own head = false

abbrev pub is_ended_by : Head → Waits → Bool
is_ended_by head w = ends w.awaited head

-- a message came
abbrev pub hears : Head → ℕ → Waits → Waits
hears head now w = if is_ended_by head w then record w { awaited = Reports; since = now } else w

-- a write begins, where there was none since the last read
abbrev pub write_since : ℕ → Option ℕ → Option ℕ
write_since now None = Some now
write_since now (Some since) = Some since

abbrev pub writes : ℕ → Waits → Waits
writes now w = record w { writing = write_since now w.writing }

abbrev pub reads : Waits → Waits
reads w = record w { writing = None }
