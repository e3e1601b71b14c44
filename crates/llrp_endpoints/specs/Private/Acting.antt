-- Beside Calls/Acting: words of private functions.
use Rattle.std.specs.Prelude.{◌≡◌, ℕ, ◌<◌, ◌≤◌, ◌++◌, List, ◌∷◌, length}
use Rattle.std.specs.List.{AllByRecursion}
use Rattle.llrp_session.specs.ReaderMachine.{Reader}
use Rattle.llrp_listing.specs.declared.outcome.ToolErr.{ToolErr}
use Rattle.llrp_listing.specs.declared.outcome.ToolErr.TheVariants.{Memory}
use Rattle.llrp_endpoints.specs.declared.script.Entry.{Entry}
use Rattle.llrp_endpoints.specs.Sending.{Adds}
use Rattle.llrp_endpoints.specs.Calls.Sending.{AddsSome}
use Rattle.llrp_endpoints.specs.Serving.{Happening, run, said}

-- These events made this reader of that one, and what it said was appended.
pub record Did (before : Reader) (hs : List Happening) (after : Reader) (old new : List ℕ) : Type 0 where
  pub reader : after ≡ (run before hs).reader
  pub adds : Adds (said (run before hs)) old new

-- Memory ran out, with some of what these events make the reader say appended.
pub record DidSome (before : Reader) (hs : List Happening) (error : ToolErr) (old new : List ℕ) : Type 0 where
  pub memory : error ≡ Memory
  pub adds : AddsSome (said (run before hs)) old new

-- this many of the first entries happen after no more items than these
pub record IsDue (entries : List Entry) (taken count : ℕ) : Type 0 where
  pub due : List Entry
  pub later : List Entry
  pub whole : entries ≡ due ++ later
  pub count_is : count ≡ length due
  pub due_are : AllByRecursion (λ e. e.after ≤ taken) due
  pub later_begin : (e : Entry) (es : List Entry) → later ≡ e ∷ es → taken < e.after
