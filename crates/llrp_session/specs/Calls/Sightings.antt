-- Beside Sightings: what contracts say that no promise rests on.
use Rattle.std.specs.Prelude.{◌≡◌, ◌≤◌, ℕ, suc, Bool, true, false, List, [], ◌∷◌, ◌++◌, length, if◌then◌else◌}
use Rattle.llrp_session.specs.Table.{active_count}
use Rattle.llrp_session.specs.Contents.{ReaderContent, Overflowed, ReaderMessage}
use Rattle.llrp_session.specs.ReaderMachine.{ReaderEvent, most_held}
use Rattle.llrp_session.specs.Sightings.{tags_of, History, history, no_history}

-- ---- what is sent

abbrev pub is_overflow : ReaderContent → Bool
is_overflow (Overflowed now) = true
is_overflow _ = false

-- how many overflow events are among messages
unfoldable pub overflows : List ReaderMessage → ℕ
overflows [] = 0
overflows (m ∷ ms) = if is_overflow m.word then suc (overflows ms) else overflows ms

-- ---- the law

-- what holds after every list of events, from a reader as new
abbrev pub AfterAllEvents : (History → Type 0) → Type 0
AfterAllEvents P = (limit first_id : ℕ) (events : List (ℕ × ReaderEvent)) → P (history events (no_history limit first_id))

-- the reports sent, followed by those held, are those of the sightings that counted and were not dropped, in order, each once
abbrev pub ReportsInOrder : History → Type 0
ReportsInOrder h = tags_of h.sent ++ h.reader.held ≡ h.kept

-- one overflow event was sent for each sighting that was dropped
abbrev pub OverflowsTold : History → Type 0
OverflowsTold h = overflows h.sent ≡ h.dropped

abbrev pub HoldsFewEnough : History → Type 0
HoldsFewEnough h = length h.reader.held ≤ most_held

abbrev pub OneActive : History → Type 0
OneActive h = active_count h.reader.table ≤ 1
