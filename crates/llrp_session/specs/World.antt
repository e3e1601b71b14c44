-- The two ends, and the whole messages on the way between them, in order in each direction; none is lost.
use Rattle.std.specs.Prelude.{ℕ, ◌==◌, if◌then◌else◌, List, [], ◌∷◌}
use Rattle.llrp_tree.specs.Tree.{Tree}
use Rattle.llrp_session.specs.TagReport.{Sighting}
use Rattle.llrp_session.specs.Table.{listing}
use Rattle.llrp_session.specs.Contents.{Listing, Request, GetRoSpecs, Heard, HeardResponse, Command, request}
use Rattle.llrp_session.specs.ReaderMachine.{Reader, ReaderPhase, Up, ReaderEvent, Take}
use Rattle.llrp_session.specs.ClientMachine.{Taken, Tags, Table, Differs}

pub data WorldEvent : Type 0 where
  Connects : (now : ℕ) → WorldEvent
  Commands : Command → WorldEvent
  DeliversUp : (now : ℕ) → WorldEvent  -- the first message on the way to the reader
  DeliversDown : WorldEvent  -- the first message on the way to the client
  Sees : (now : ℕ) → Sighting → WorldEvent
  Ticks : (now : ℕ) → WorldEvent

-- the table that a response lists: only GET_ROSPECS's with status 0 lists one
abbrev pub table_heard : Heard → List (List Tree)
table_heard (HeardResponse Listing status ts) = if status == 0 then ts ∷ [] else []
table_heard _ = []

-- what is listed for a request
abbrev pub listed_for : Request → Reader → List (List Tree)
listed_for GetRoSpecs r = listing r.table ∷ []
listed_for _ r = []

-- what is listed for the event of a reader in a phase
abbrev pub listed_in : ReaderPhase → ReaderEvent → Reader → List (List Tree)
listed_in Up (Take version id request) r = listed_for request r
listed_in _ e r = []

abbrev pub listed_by : ReaderEvent → Reader → List (List Tree)
listed_by e r = listed_in r.phase e r

abbrev pub tags_handed_out : Taken → List Tree
tags_handed_out (Tags tags) = tags
tags_handed_out _ = []

abbrev pub tables_shown : Taken → List (List Tree)
tables_shown (Table ts) = ts ∷ []
tables_shown _ = []

abbrev pub tables_differing : Taken → List (List Tree)
tables_differing (Differs ts) = ts ∷ []
tables_differing _ = []
