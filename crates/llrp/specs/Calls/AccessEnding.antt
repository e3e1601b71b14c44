-- How `access` operates on a tag over a socket, and how it ends; std's contracts say neither what a socket has left to read nor what it took.
use Rattle.std.specs.Prelude.{◌≡◌, ℕ, if◌then◌else◌, List, [], ◌++◌, None, codes}
use Rattle.llrp_stream.specs.Device.{SourceLog, SinkLog, Wrote}
use Rattle.llrp_stream.specs.Calls.Device.{new_sink, new_source}
use Rattle.llrp_listing.specs.declared.outcome.ToolErr.TheVariants.{Peer}
use Rattle.llrp_commands.specs.Calls.Command.{error_line, error_status}
use Rattle.llrp_words.specs.declared.arguments.access_words.AccessWords.{AccessWords}
use Rattle.llrp_operations.specs.declared.access.Ending.{Ending}
use Rattle.llrp_operations.specs.declared.access.Ending.TheVariants.{Done, Undone, Refused, RefusedTargets, Several, NoEpc, NoTag, Unknown, Broken}
use Rattle.llrp_operations.specs.declared.access.Errand.{Errand}
use Rattle.llrp_operations.specs.declared.errand.ErrandWords.{ErrandWords}
use Rattle.llrp_operations.specs.declared.talk.AccessErr.{AccessErr}
use Rattle.llrp_operations.specs.Calls.Access.{Accesses}
use Rattle.llrp_operations.specs.Calls.Talking.{Fails}
use Rattle.llrp.specs.declared.access_errand.OperationTexts.{OperationTexts}

-- the words of what is to be done, as `errand_of` takes them: each is the option's own
pub record AreErrandWords (w : AccessWords) (t : OperationTexts) (e : ErrandWords) : Type 0 where
  pub tag : e.tag.now ≡ w.tag.now
  pub reads : e.reads.now ≡ t.reads.items
  pub writes : e.writes.now ≡ t.writes.items
  pub epc : e.epc ≡ w.epc
  pub locks : e.locks.now ≡ t.locks.items
  pub antenna : e.antenna ≡ w.antenna
  pub verifies : e.verifies ≡ w.verify
  pub json : e.json ≡ w.json

-- A client operated so, over a source and a sink of which nothing was read or written before. These are the logs of what it prints.
abbrev pub AccessesReader : Errand → SinkLog → SinkLog → Ending → Type 0
AccessesReader e p0 p1 end = (source : SourceLog) × (sink : SinkLog) × Accesses e (new_source None) source (new_sink None) sink p0 p1 end

-- It failed so. This is what was sent by then, and whether a change was asked for.
abbrev pub FailsReader : Errand → AccessErr → Type 0
FailsReader e err = (source : SourceLog) × (sink : SinkLog) × Fails e.request (new_source None) source (new_sink None) sink err

-- what that comes to: where a change was asked for, it is not known what became of it
abbrev pub ending_after : AccessErr → Ending
ending_after err = if err.may_have_changed then Unknown else Broken err.error

-- the exit status
abbrev pub ending_status : Ending → ℕ
ending_status Done = 0
ending_status Undone = 1
ending_status (Refused status) = 1
ending_status (RefusedTargets status) = 1
ending_status Several = 1
ending_status NoEpc = 1
ending_status NoTag = 1
ending_status Unknown = 4
ending_status (Broken cause) = error_status cause

-- after the line of a refusal: what the reader may not have taken
abbrev pub targets_hint : List ℕ
targets_hint = codes "llrp: hint: the AccessSpec has two C1G2TargetTags, and the reader may take one alone\n"

-- the line on standard error
abbrev pub ending_line : Ending → List ℕ
ending_line Done = []
ending_line Undone = codes "llrp: not done\n"
ending_line (Refused status) = error_line (Peer status)
ending_line (RefusedTargets status) = error_line (Peer status) ++ targets_hint
ending_line Several = codes "llrp: several tags\n"
ending_line NoEpc = codes "llrp: no epc\n"
ending_line NoTag = codes "llrp: no tag\n"
ending_line Unknown = codes "llrp: unknown, read again\n"
ending_line (Broken cause) = error_line cause

-- the line was written, and this is the status
pub record SaysEnding (end : Ending) (e0 e1 : SinkLog) (status : ℕ) : Type 0 where
  pub line : Wrote e0 e1 (ending_line end)
  pub status_is : status ≡ ending_status end
