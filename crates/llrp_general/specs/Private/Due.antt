-- What is done of a script's entries after a frame.
use Rattle.std.specs.Prelude.{◌≡◌, ◌⊎◌, ℕ, ◌+◌, List, [], Result, Ok, Err}
use Rattle.llrp_tree.specs.Tree.{MessageTree}
use Rattle.llrp_stream.specs.declared.item.Item.{Item}
use Rattle.llrp_listing.specs.declared.outcome.ToolErr.{ToolErr}
use Rattle.llrp_listing.specs.declared.outcome.ToolErr.TheVariants.{Memory}
use Rattle.llrp_versions.specs.declared.version.Version.TheVariants.{First}
use Rattle.llrp_endpoints.specs.declared.script.Entry.{Entry}
use Rattle.llrp_endpoints.specs.Serving.{entries_at, last_moment}
use Rattle.llrp_live.specs.Calls.Doings.{Dated}
use Rattle.llrp_live.specs.Calls.Living.{Begun, Lives, came}
use Rattle.llrp_general.specs.Private.Acting.{Did, DidSome, HasDone, entry_dates}
use Rattle.llrp_general.specs.declared.serving.WholeReader.{WholeReader}

-- how many frames came to a reader
abbrev pub count_of : Begun → List Item → ℕ
count_of b items = came b.answers First items

-- The entries of fewer frames than came are done, or those of that many are, too.
abbrev pub MayBeDue : (done count : ℕ) → Type 0
MayBeDue done count = (done ≡ count) ⊎ (done ≡ count + 1)

-- the entries that happen then: those of that count, or none
abbrev pub AreDue : (done count : ℕ) → List Entry → List Entry → Type 0
AreDue done count entries due = ((done ≡ count) × (due ≡ entries_at count entries)) ⊎ ((done ≡ count + 1) × (due ≡ []))

-- they happened
pub record DidDue (done : ℕ) (entries : List Entry) (b : Begun) (before : List Dated) (bytes : List ℕ) (items : List Item) (old new : WholeReader) (out0 out1 : List MessageTree) : Type 0 where
  pub due : List Entry
  pub are : AreDue done (count_of b items) entries due
  pub did : Did (entry_dates due) b before bytes items old.reader new.reader out0 out1
  pub has_done : HasDone (count_of b items + 1) entries new.script new.done new.moment
  pub moment : new.moment ≡ last_moment old.moment due

-- or some first ones of them
pub record DidSomeDue (done : ℕ) (entries : List Entry) (b : Begun) (items : List Item) (old new : WholeReader) : Type 0 where
  pub due : List Entry
  pub are : AreDue done (count_of b items) entries due
  pub did : DidSome due old.reader new.reader

abbrev pub DidAtOnce : (done : ℕ) → List Entry → Begun → List Dated → List ℕ → List Item → WholeReader → WholeReader → List MessageTree → List MessageTree → Result (Unit {0}) ToolErr → Type 0
DidAtOnce done entries b before bytes items old new out0 out1 (Ok u) = DidDue done entries b before bytes items old new out0 out1
DidAtOnce done entries b before bytes items old new out0 out1 (Err error) = (error ≡ Memory) × DidSomeDue done entries b items old new

-- whatever came before
abbrev pub DoesDue : WholeReader → WholeReader → List MessageTree → List MessageTree → Result (Unit {0}) ToolErr → Type 0
DoesDue old new out0 out1 answer =
    (done : ℕ) (entries : List Entry) (b : Begun) (before : List Dated) (bytes : List ℕ) (items : List Item) → Lives b before bytes items old.reader
    → HasDone done entries old.script old.done old.moment → MayBeDue done (count_of b items) → DidAtOnce done entries b before bytes items old new out0 out1 answer
