-- What the code that lets a reader act promises.
use Rattle.std.specs.Prelude.{◌≡◌, ℕ, ◌<◌, ◌≤◌, ◌++◌, List, ◌∷◌, length, map}
use Rattle.std.specs.List.{AllByRecursion}
use Rattle.llrp_tree.specs.Tree.{MessageTree}
use Rattle.llrp_stream.specs.declared.item.Item.{Item}
use Rattle.llrp_endpoints.specs.declared.script.Entry.{Entry}
use Rattle.llrp_endpoints.specs.Calls.Script.{IsLawfulScript}
use Rattle.llrp_endpoints.specs.Serving.{last_moment}
use Rattle.llrp_live.specs.declared.reader.LiveReader.{LiveReader}
use Rattle.llrp_live.specs.Calls.Doings.{Dated, course}
use Rattle.llrp_live.specs.Calls.Living.{Begun, Lives}
use Rattle.llrp_general.specs.Calls.Serving.{all_dated, by_script}

-- these were done, and what is said then appended
pub record Did (ds : List Dated) (b : Begun) (before : List Dated) (bytes : List ℕ) (items : List Item) (old new : LiveReader) (out0 out1 : List MessageTree) : Type 0 where
  pub said : out1 ≡ out0 ++ (course old.core ds).said
  pub lives : Lives b (before ++ ds) bytes items new

abbrev pub DoesAll : List Dated → LiveReader → LiveReader → List MessageTree → List MessageTree → Type 0
DoesAll ds old new out0 out1 = (b : Begun) (before : List Dated) (bytes : List ℕ) (items : List Item) → Lives b before bytes items old → Did ds b before bytes items old new out0 out1

abbrev pub entry_dates : List Entry → List Dated
entry_dates entries = all_dated (map by_script entries)

-- some first entries happened before memory ran out
pub record DidSome (entries : List Entry) (old new : LiveReader) : Type 0 where
  pub done : List Entry
  pub undone : List Entry
  pub parts : entries ≡ done ++ undone
  pub lives : (b : Begun) (before : List Dated) (bytes : List ℕ) (items : List Item) → Lives b before bytes items old → Lives b (before ++ entry_dates done) bytes items new

-- this many of the first entries happen after no more items than these
pub record IsDue (entries : List Entry) (taken count : ℕ) : Type 0 where
  pub due : List Entry
  pub later : List Entry
  pub whole : entries ≡ due ++ later
  pub count_is : count ≡ length due
  pub due_are : AllByRecursion (λ e. e.after ≤ taken) due
  pub later_begin : (e : Entry) (es : List Entry) → later ≡ e ∷ es → taken < e.after

-- Of the entries those after fewer items than this are done, which is this many, the last at this moment, and the others are left.
pub record HasDone (count : ℕ) (entries script : List Entry) (done moment : ℕ) : Type 0 where
  pub first : List Entry
  pub left : List Entry
  pub whole : entries ≡ first ++ left
  pub lawful : IsLawfulScript entries
  pub script_is : script ≡ entries
  pub done_is : done ≡ length first
  pub first_are : AllByRecursion (λ e. e.after < count) first
  pub left_are : AllByRecursion (λ e. count ≤ e.after) left
  pub moment_is : moment ≡ last_moment 0 first
