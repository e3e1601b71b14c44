-- Beside Calls/ServingStands: words of private functions.
use Rattle.std.specs.Prelude.{◌≡◌, ℕ, ◌+◌, ◌++◌, List, [], ◌∷◌, map, min, Result, Ok, Err, Bool, true, false}
use Rattle.llrp_tree.specs.Tree.{MessageTree}
use Rattle.llrp_stream.specs.declared.item.Item.{Item}
use Rattle.llrp_session.specs.ReaderMachine.{Reader}
use Rattle.llrp_listing.specs.declared.outcome.ToolErr.{ToolErr}
use Rattle.llrp_listing.specs.declared.outcome.ToolErr.TheVariants.{Memory}
use Rattle.llrp_endpoints.specs.declared.script.Entry.{Entry}
use Rattle.llrp_endpoints.specs.declared.serving.scripted.ScriptedReader.{ScriptedReader}
use Rattle.llrp_endpoints.specs.declared.serving.Serving.{Serving}
use Rattle.llrp_endpoints.specs.Serving.{happening, entries_at, events, closing_events, run, said, Closes}
use Rattle.llrp_endpoints.specs.Sending.{Adds}
use Rattle.llrp_endpoints.specs.Private.Acting.{Did, DidSome}
use Rattle.llrp_endpoints.specs.Calls.ServingStands.{Goes, HasDone, HasTaken, StandsFor}
use Rattle.llrp_endpoints.specs.TagLines.{greatest_count}

-- The client connected, and the entries before any item happened.
pub record Connects (reader : Reader) (entries : List Entry) (new : ScriptedReader) (out0 out1 : List ℕ) : Type 0 where
  pub taken : HasTaken reader entries [] new
  pub adds : Adds (said (run reader (events entries []))) out0 out1

-- the entries after this many items happened
pub record DoesEntries (count : ℕ) (entries : List Entry) (old new : ScriptedReader) (out0 out1 : List ℕ) : Type 0 where
  pub did : Did old.core (map happening (entries_at count entries)) new.core out0 out1
  pub done : HasDone (count + 1) entries new

-- An item was taken, and the entries after it happened where it doesn't close the connection.
abbrev pub TakesItem : Reader → List Entry → List Item → Item → ScriptedReader → List ℕ → List ℕ → Result Bool ToolErr → Type 0
TakesItem reader entries items item new out0 out1 (Ok false) =
    (Closes item → ⊥) × HasTaken reader entries (items ++ item ∷ []) new
    × (more : List MessageTree) × Adds more out0 out1 × (said (run reader (events entries (items ++ item ∷ []))) ≡ said (run reader (events entries items)) ++ more)
TakesItem reader entries items item new out0 out1 (Ok true) =
    Closes item × (more : List MessageTree) × Adds more out0 out1 × (said (run reader (closing_events entries items item)) ≡ said (run reader (events entries items)) ++ more)
TakesItem reader entries items item new out0 out1 (Err error) =
    (error ≡ Memory) × (more later : List MessageTree) × Adds more out0 out1
    × (said (run reader (events entries (items ++ item ∷ []))) ≡ (said (run reader (events entries items)) ++ more) ++ later)

-- ---- the calls, whoever is served and whatever came before

-- the entries that are due happened
abbrev pub DoesDue : ScriptedReader → ScriptedReader → List ℕ → List ℕ → Type 0
DoesDue old new out0 out1 = (count : ℕ) (entries : List Entry) → HasDone count entries old → old.taken ≡ min count greatest_count → DoesEntries count entries old new out0 out1

-- memory ran out in them
abbrev pub DoesSomeDue : ScriptedReader → ToolErr → List ℕ → List ℕ → Type 0
DoesSomeDue old error out0 out1 =
    (count : ℕ) (entries : List Entry) → HasDone count entries old → old.taken ≡ min count greatest_count
    → DidSome old.core (map happening (entries_at count entries)) error out0 out1

-- the next item was taken
abbrev pub TakesNext : Item → ScriptedReader → ScriptedReader → List ℕ → List ℕ → Result Bool ToolErr → Type 0
TakesNext item old new out0 out1 answer =
    (reader : Reader) (entries : List Entry) (items : List Item) → HasTaken reader entries items old → TakesItem reader entries items item new out0 out1 answer

-- the items of a piece were taken
abbrev pub TakesPiece : List ℕ → Serving → Serving → List ℕ → List ℕ → Result Bool ToolErr → Type 0
TakesPiece piece old new out0 out1 answer =
    (reader : Reader) (entries : List Entry) (bytes : List ℕ) (messages : List MessageTree) → StandsFor reader entries bytes messages old
    → (more : List MessageTree) × Adds more out0 out1 × Goes reader entries (bytes ++ piece) (messages ++ more) new answer
