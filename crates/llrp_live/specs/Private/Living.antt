-- Beside Calls/Living: words of private functions.
use Rattle.std.specs.Prelude.{◌≡◌, ℕ, ◌+◌, ◌++◌, min, if◌then◌else◌, Bool, true, false, List, Result, Ok, Err}
use Rattle.llrp_tree.specs.Tree.{MessageTree}
use Rattle.llrp_stream.specs.declared.item.Item.{Item}
use Rattle.llrp_session.specs.ReaderMachine.{Reader, ReaderEvent}
use Rattle.llrp_listing.specs.declared.outcome.ToolErr.{ToolErr}
use Rattle.llrp_answers.specs.declared.answers.Pair.{Pair}
use Rattle.llrp_versions.specs.declared.version.Version.{Version}
use Rattle.llrp_live.specs.declared.reader.LiveReader.{LiveReader}
use Rattle.llrp_live.specs.declared.reader.LivePhase.{LivePhase}
use Rattle.llrp_live.specs.declared.reader.LivePhase.TheVariants.{Open, Closed, Failed}
use Rattle.llrp_live.specs.Calls.Doings.{Happens, Dated, comes_in, doing, next_version, once}
use Rattle.llrp_live.specs.declared.reader.Taken.{Taken}
use Rattle.llrp_live.specs.Calls.Living.{Feeds}

-- this was done, and what is said then appended
pub record Does (d : Dated) (old new : Reader) (out0 out1 : List MessageTree) : Type 0 where
  pub reader : new ≡ (once old d d.doing).reader
  pub said : out1 ≡ out0 ++ (once old d d.doing).said

abbrev pub DoesEvent : ℕ → ReaderEvent → Reader → Reader → List MessageTree → List MessageTree → Type 0
DoesEvent now event old new out0 out1 = Does (record { now = now; doing = Happens event }) old new out0 out1

abbrev pub DoesItem : ℕ → List Pair → Version → Item → Reader → Reader → List MessageTree → List MessageTree → Type 0
DoesItem now ps v item old new out0 out1 = Does (record { now = now; doing = doing ps v item }) old new out0 out1

-- whether the item came to the reader, and the version that is in use then
pub record IsTaken (ps : List Pair) (v : Version) (item : Item) (taken : Taken) : Type 0 where
  pub comes : taken.comes ≡ comes_in (doing ps v item)
  pub version : taken.version ≡ next_version v item

-- the phase that an answer leaves
abbrev pub phase_after : Result Bool ToolErr → LivePhase
phase_after (Ok false) = Open
phase_after (Ok true) = Closed
phase_after (Err error) = Failed error

-- how many came to the reader with one more, which did so or not
abbrev pub count_more : ℕ → Bool → ℕ
count_more taken comes = min (taken + (if comes then 1 else 0)) 18446744073709551615

-- the items of a piece were taken
abbrev pub TakesPiece : ℕ → List ℕ → LiveReader → LiveReader → List MessageTree → List MessageTree → Result Bool ToolErr → Type 0
TakesPiece now piece old new out0 out1 answer = Feeds now piece old new out0 out1 answer
