-- What a client that operates on a tag prints, and how it ends.
use Rattle.std.specs.Prelude.{◌≡◌, ℕ, Bool, true, if◌then◌else◌, List, [], ◌∷◌, ◌++◌, filter, find, Option, Some, None, option_map, unwrap_or, ◌&&◌, not, ◌⊎◌}
use Rattle.std.specs.List.{list_any}
use Rattle.llrp_tree.specs.Tree.{MessageTree, Tree, trees}
use Rattle.llrp_stream.specs.Device.{SourceLog, SinkLog, Wrote}
use Rattle.llrp_listing.specs.declared.outcome.ToolErr.{ToolErr}
use Rattle.llrp_operations.specs.declared.access.Ending.{Ending}
use Rattle.llrp_operations.specs.declared.access.Ending.TheVariants as ending
use Rattle.llrp_operations.specs.declared.access.Errand.{Errand}
use Rattle.llrp_operations.specs.declared.course.Outcome.{Outcome}
use Rattle.llrp_operations.specs.declared.course.Outcome.TheVariants.{Reported, Refused, RefusedTargets, Several, NoEpc, NoTag, Unknown, Broken}
use Rattle.llrp_operations.specs.declared.operation.Operation.{Operation}
use Rattle.llrp_operations.specs.declared.talk.Talked.{Talked}
use Rattle.llrp_operations.specs.Calls.Changes.{changes, is_done, is_meant, is_verified}
use Rattle.llrp_operations.specs.Calls.Laws.{Succeeds}
use Rattle.llrp_operations.specs.Calls.Lines.{result_line, result_object}
use Rattle.llrp_operations.specs.Calls.Messages.{epc_in, has_results}
use Rattle.llrp_operations.specs.Calls.Results.{is_result, say_clearly}
use Rattle.llrp_operations.specs.Calls.TagNames.{IsTagName}
use Rattle.llrp_operations.specs.Calls.Talking.{Talks}

-- ---- the tag with the results

-- the first TagReportData of a message that has results of the AccessSpec with this id
abbrev pub tag_in : ℕ → MessageTree → Option Tree
tag_in id m = find (has_results id) (trees m.children)

abbrev pub tag_of : ℕ → Option MessageTree → Option Tree
tag_of id None = None
tag_of id (Some m) = tag_in id m

abbrev pub results_of : Tree → List Tree
results_of tag = filter is_result (trees tag.children)

-- ---- what is printed: a line for each operation sent, with the result that comes after as many others

abbrev pub line_of : (json : Bool) (name : List ℕ) → Operation → Option Tree → List ℕ
line_of json name o said = if json then result_object name o said else result_line name o said

abbrev pub lines_of : (json : Bool) (name : List ℕ) → List Operation → List Tree → List ℕ
lines_of json name [] ts = []
lines_of json name (o ∷ os) [] = line_of json name o None ++ lines_of json name os []
lines_of json name (o ∷ os) (t ∷ ts) = line_of json name o (Some t) ++ lines_of json name os ts

-- each line says the tag that it is of
abbrev pub epc_of : Tree → List ℕ
epc_of tag = epc_in (trees tag.children)

abbrev pub IsShown : Errand → Tree → (lines : List ℕ) → Type 0
IsShown e tag lines = (name : List ℕ) × IsTagName (epc_of tag) name × (lines ≡ lines_of e.json name e.request.operations.now (results_of tag))

abbrev pub Shows : Errand → SinkLog → SinkLog → Option Tree → Type 0
Shows e p0 p1 None = Wrote p0 p1 []
Shows e p0 p1 (Some tag) = (lines : List ℕ) × IsShown e tag lines × Wrote p0 p1 lines

-- ---- how it ends

-- the EPC that is meant: that of the tag that was seen before a change, else the one that was asked for
abbrev pub meant_in : Errand → Talked → List ℕ
meant_in e talked = unwrap_or (option_map (λ epc. epc.items) talked.seen) e.request.epc.now

-- the tag is the one that is meant, and of each operation it is clear what became of it
abbrev pub is_known : Errand → (meant : List ℕ) → Tree → Bool
is_known e meant tag = is_meant meant e.given.now (epc_of tag) && say_clearly 1 e.request.operations.now (trees tag.children)

-- a change that was not done is unknown if it is not known to have been none
abbrev pub undone : Errand → (meant : List ℕ) → Tree → Ending
undone e meant tag = if list_any changes e.request.operations.now && not (is_known e meant tag) then ending.Unknown else ending.Undone

abbrev pub judged : Errand → (meant : List ℕ) → Tree → Ending
judged e meant tag =
    if is_done e.verifies e.request.id e.asked.now e.request.operations.now meant e.given.now tag then ending.Done else undone e meant tag

-- without results
abbrev pub ending_of : Outcome → (cause : ToolErr) → Ending
ending_of Reported cause = ending.Undone
ending_of (Refused status) cause = ending.Refused status
ending_of (RefusedTargets status) cause = ending.RefusedTargets status
ending_of Several cause = ending.Several
ending_of NoEpc cause = ending.NoEpc
ending_of NoTag cause = ending.NoTag
ending_of Unknown cause = ending.Unknown
ending_of Broken cause = ending.Broken cause

abbrev pub ending_for : Errand → Talked → Option Tree → Ending
ending_for e talked None = ending_of talked.outcome talked.cause
ending_for e talked (Some tag) = judged e (meant_in e talked) tag

-- What happened, and what came of it: to the reader went what the course says, printed were the lines of the tag with the results, and the ending is its.
pub record Accesses (e : Errand) (r0 r1 : SourceLog) (w0 w1 p0 p1 : SinkLog) (end : Ending) : Type 0 where
  pub talked : Talked
  pub talks : Talks e.request r0 r1 w0 w1 talked
  pub shown : Shows e p0 p1 (tag_of e.request.id talked.report)
  pub ending_is : end ≡ ending_for e talked (tag_of e.request.id talked.report)

-- ---- all was done

-- the EPC is the one that is meant, where one is, or the one that the tag was to be given, where it was
abbrev pub IsMeant : (meant given epc : List ℕ) → Type 0
IsMeant meant given epc = (meant ≡ []) ⊎ (epc ≡ meant) ⊎ ((given ≡ [] → ⊥) × (epc ≡ given))

-- the tag is the one that is meant; its results are one for each operation sent, in order, each of which is 0 and whole; and where it verifies, the words read back are those that were written
pub record IsAllDone (e : Errand) (meant : List ℕ) (tag : Tree) : Type 0 where
  pub own : IsMeant meant e.given.now (epc_of tag)
  pub succeeds : Succeeds e.request.id e.request.operations.now tag
  pub verified : e.verifies ≡ true → is_verified e.asked.now tag ≡ true

-- it ends as done exactly if results came that say so
abbrev pub SaysWhenDone : Type 0
SaysWhenDone = (e : Errand) (talked : Talked) (tag : Option Tree)
    → (ending_for e talked tag ≡ ending.Done → (t : Tree) × (tag ≡ Some t) × IsAllDone e (meant_in e talked) t) × ((t : Tree) → tag ≡ Some t → IsAllDone e (meant_in e talked) t → ending_for e talked tag ≡ ending.Done)

-- a message that came says that all was done, to the tag that is meant, in the first TagReportData with results
pub record IsDoneToIt (e : Errand) (talked : Talked) : Type 0 where
  pub report : MessageTree
  pub came : talked.report ≡ Some report
  pub tag : Tree
  pub first : tag_in e.request.id report ≡ Some tag
  pub done : IsAllDone e (meant_in e talked) tag

abbrev pub DoneIsDoneToIt : Type 0
DoneIsDoneToIt = (e : Errand) (r0 r1 : SourceLog) (w0 w1 p0 p1 : SinkLog) (a : Accesses e r0 r1 w0 w1 p0 p1 ending.Done) → IsDoneToIt e a.talked
