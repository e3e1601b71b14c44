-- When a reader next does something by itself: it sends a KEEPALIVE, or its active ROSpec ends. Moments are in microseconds.
use Rattle.std.specs.Prelude.{ℕ, ◌==◌, min, if◌then◌else◌, Option, None, Some}
use Rattle.llrp_session.specs.RoSpec.{RoSpec}
use Rattle.llrp_session.specs.Table.{active}
use Rattle.llrp_session.specs.ReaderMachine.{Reader, Keepalive, later}

-- the sooner of two moments, if there are any
abbrev pub sooner : Option ℕ → Option ℕ → Option ℕ
sooner None b = b
sooner (Some a) None = Some a
sooner (Some a) (Some b) = Some (min a b)

-- when a ROSpec that started at a moment ends by its duration, if its stop trigger is 1
abbrev pub ends_at : ℕ → Option RoSpec → Option ℕ
ends_at started None = None
ends_at started (Some s) = if s.stop_trigger == 1 then Some (later started s.duration) else None

-- when the next KEEPALIVE is sent
abbrev pub keeps_alive_at : Option Keepalive → Option ℕ
keeps_alive_at None = None
keeps_alive_at (Some k) = Some k.due

-- when it next does something by itself
abbrev pub next_due : Reader → Option ℕ
next_due r = sooner (ends_at r.started (active r.table)) (keeps_alive_at r.keepalive)
