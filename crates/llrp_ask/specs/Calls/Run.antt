-- What a client that asks reads, sends and shows.
use Rattle.std.specs.Prelude.{◌≡◌, ℕ, ◌+◌, ◌<◌, List, [], Option, Some, None, Result, Ok, Err}
use Rattle.std.specs.Io.KnownBytes.{Consumes, IsAtEnd}
use Rattle.llrp_schema.specs.declared.kinds.KindSet.TheVariants.{Standard}
use Rattle.llrp_tree.specs.declared.TheConstants.{MAX_LIMIT}
use Rattle.llrp_stream.specs.Cuts.{Breaks, IsPartial, length_field}
use Rattle.llrp_stream.specs.Device.{SourceLog, SinkLog, Wrote}
use Rattle.llrp_stream.specs.Items.{ItemsSoFarIn}
use Rattle.llrp_listing.specs.declared.outcome.ToolErr.{ToolErr}
use Rattle.llrp_listing.specs.declared.outcome.ToolErr.TheVariants.{Peer, Read, Early, Broken, Strange, Bound, Write, Memory}
use Rattle.llrp_listing.specs.declared.outcome.Verdict.{Verdict}
use Rattle.llrp_listing.specs.Show.{ListedAs}
use Rattle.llrp_ask.specs.declared.asking.Phase.{Phase}
use Rattle.llrp_ask.specs.declared.asking.Phase.TheVariants.{Waits, Ended, Failed}
use Rattle.llrp_ask.specs.declared.ask.Manner.{Manner}
use Rattle.llrp_ask.specs.declared.step.Step.{Step}
use Rattle.llrp_ask.specs.Calls.Asking.{Course, Event, fail, first_course, follow, items_of, silences_of}
use Rattle.llrp_ask.specs.Calls.Shown.{IsShown, end_shown}

-- ---- reading

-- Reads gave these bytes, and this many others came to nothing since time was over.
pub record HasRead (r0 r1 : SourceLog) (bytes : List ℕ) (silences : ℕ) : Type 0 where
  pub reads : ℕ
  pub counts : r1 ≡ record r0 { reads = r0.reads + reads; failures = r0.failures + silences; left = r1.left }
  pub bytes_are : Consumes r0.left r1.left bytes

-- a read met the source's end
pub record MetEnd (r0 r1 : SourceLog) : Type 0 where
  pub counts : r1 ≡ record r0 { ends = r0.ends + 1; left = r1.left }
  pub bytes_are : Consumes r0.left r1.left []
  pub all : IsAtEnd r1.left

-- a read failed
pub record ReadFailed (r0 r1 : SourceLog) : Type 0 where
  pub counts : r1 ≡ record r0 { failures = r0.failures + 1; left = r1.left }
  pub bytes_are : Consumes r0.left r1.left []

-- ---- how reading ends

-- Reading ends before the client does, for this reason, where these octets are left of an unfinished frame: the source's end, a read that failed, a length field
-- below 10, or a frame of more octets than a message may have.
abbrev pub Stops : Option ToolErr → SourceLog → SourceLog → List ℕ → Type 0
Stops None r0 r1 rest = (r1 ≡ r0) × IsPartial rest
Stops (Some Early) r0 r1 rest = MetEnd r0 r1 × IsPartial rest
Stops (Some Read) r0 r1 rest = ReadFailed r0 r1 × IsPartial rest
Stops (Some Broken) r0 r1 rest = (r1 ≡ r0) × Breaks rest
Stops (Some Strange) r0 r1 rest = (r1 ≡ r0) × (MAX_LIMIT < length_field rest)
Stops (Some _) r0 r1 rest = ⊥

-- a course that has not ended fails for that reason
abbrev pub stopped : Option ToolErr → Course → Course
stopped None c = c
stopped (Some error) c = fail c.phase error c

-- the answer of a course that ended so: the first status other than 0 is an error
abbrev pub ended_with : Option ℕ → Verdict → Result Verdict ToolErr
ended_with None verdict = Ok verdict
ended_with (Some status) verdict = Err (Peer status)

abbrev pub answer_in : Phase → Option ℕ → Verdict → Result Verdict ToolErr
answer_in (Waits wait) refused verdict = Err Bound
answer_in Ended refused verdict = ended_with refused verdict
answer_in (Failed error) refused verdict = Err error

abbrev pub answer_for : Course → Verdict → Result Verdict ToolErr
answer_for c verdict = answer_in c.phase c.refused verdict

-- ---- a run

-- What happened, and what came of it: to the reader went what the course of these events sends, and shown was, of the octets read, what `show --all` shows of
-- them; the verdict is theirs.
pub record Asked (manner : Manner) (steps : List Step) (r0 r1 : SourceLog) (w0 w1 p0 p1 : SinkLog) (answer : Result Verdict ToolErr) : Type 0 where
  pub bytes : List ℕ
  pub events : List Event
  pub rest : List ℕ
  pub came : ItemsSoFarIn Standard MAX_LIMIT bytes (items_of events) rest
  pub until : SourceLog
  pub read : HasRead r0 until bytes (silences_of events)
  pub why : Option ToolErr
  pub stops : Stops why until r1 rest
  pub sent : Wrote w0 w1 (follow events (first_course manner.goes_on steps)).sent
  pub verdict : Verdict
  pub shown : ListedAs (IsShown manner.form) (end_shown manner.form) Standard MAX_LIMIT bytes p0 p1 verdict
  pub answer_is : answer ≡ answer_for (stopped why (follow events (first_course manner.goes_on steps))) verdict

-- what a run did, by its answer; where writing failed or memory ran out, nothing is said of what was written
abbrev pub Asks : Manner → List Step → SourceLog → SourceLog → (w0 w1 p0 p1 : SinkLog) → Result Verdict ToolErr → Type 0
Asks manner steps r0 r1 w0 w1 p0 p1 (Err Write) = Unit {0}
Asks manner steps r0 r1 w0 w1 p0 p1 (Err Memory) = Unit {0}
Asks manner steps r0 r1 w0 w1 p0 p1 answer = Asked manner steps r0 r1 w0 w1 p0 p1 answer
