-- No sighting that counts is lost without an event, and none is reported twice.
use Rattle.std.specs.Prelude.{ℕ, ◌+◌, List, [], ◌∷◌, ◌++◌, length, Option, None, Some, Result, Ok, Err, if◌then◌else◌}
use Rattle.llrp_tree.specs.Tree.{Tree}
use Rattle.llrp_session.specs.RoSpec.{RoSpec}
use Rattle.llrp_session.specs.Table.{active}
use Rattle.llrp_session.specs.TagReport.{Sighting, tag_report}
use Rattle.llrp_session.specs.Contents.{ReaderContent, Report, ReaderMessage}
use Rattle.llrp_session.specs.Refusal.{Refusal}
use Rattle.llrp_session.specs.ReaderMachine.{Reader, ReaderPhase, Up, Turn, ReaderEvent, Seen, effective_report, counting, is_full, new_reader, next}

-- ---- what is sent

abbrev pub tags_in : ReaderContent → List Tree
tags_in (Report tags) = tags
tags_in _ = []

-- the TagReportData among messages, in order
unfoldable pub tags_of : List ReaderMessage → List Tree
tags_of [] = []
tags_of (m ∷ ms) = tags_in m.word ++ tags_of ms

-- ---- what is sighted

-- the report of a sighting that counts while this ROSpec is active
abbrev pub report_by : ℕ → Sighting → Reader → Option RoSpec → List Tree
report_by now g r None = []
report_by now g r (Some s) = tag_report now s (effective_report r s).selector g ∷ []

abbrev pub counted_in : ReaderPhase → ℕ → ReaderEvent → Reader → List Tree
counted_in Up now (Seen g) r = report_by now g r (counting g (active r.table))
counted_in _ now _ r = []

-- the report of an event that is a sighting that counts; otherwise none
abbrev pub counted : ℕ → ReaderEvent → Reader → List Tree
counted now e r = counted_in r.phase now e r

-- the report of an event that is a sighting that counts, if there is room for it
abbrev pub kept_by : ℕ → ReaderEvent → Reader → List Tree
kept_by now e r = if is_full r then [] else counted now e r

-- how many are dropped, for want of room
abbrev pub dropped_by : ℕ → ReaderEvent → Reader → ℕ
dropped_by now e r = if is_full r then length (counted now e r) else 0

-- ---- a reader's history

pub record History : Type 0 where
  pub reader : Reader
  pub sent : List ReaderMessage  -- all messages that it sent
  pub kept : List Tree  -- the reports of all sightings that counted, but those that were dropped
  pub dropped : ℕ  -- how many were dropped

abbrev pub extended : Result Turn Refusal → List Tree → ℕ → History → History
extended (Err refusal) kept dropped h = h
extended (Ok t) kept dropped h =
    record { reader = t.reader; sent = h.sent ++ t.sent; kept = h.kept ++ kept; dropped = h.dropped + dropped }

-- one more event, at a moment
abbrev pub after_event : History → ℕ × ReaderEvent → History
after_event h e = extended (next e.0 e.1 h.reader) (kept_by e.0 e.1 h.reader) (dropped_by e.0 e.1 h.reader) h

abbrev pub history : List (ℕ × ReaderEvent) → History → History
history [] h = h
history (e ∷ es) h = history es (after_event h e)

abbrev pub no_history : ℕ → ℕ → History
no_history limit first_id = record { reader = new_reader limit first_id; sent = []; kept = []; dropped = 0 }
