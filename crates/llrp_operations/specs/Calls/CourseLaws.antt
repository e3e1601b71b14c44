-- What no course does, whatever happens.
use Rattle.std.specs.Prelude.{◌≡◌, ◌⊎◌, ℕ, Bool, true, false, List, [], ◌∷◌, ◌++◌, Some}
use Rattle.std.specs.List.{list_any}
use Rattle.llrp_operations.specs.declared.course.Demand.{Demand}
use Rattle.llrp_operations.specs.declared.course.Demand.TheVariants.{ClearAccess, ClearInventory, AddAccess, EnableAccess, RemoveAccess, RemoveInventory, Close}
use Rattle.llrp_operations.specs.declared.course.Heard.{Heard}
use Rattle.llrp_operations.specs.declared.course.Outcome.{Outcome}
use Rattle.llrp_operations.specs.declared.course.Outcome.TheVariants.{NoEpc, NoTag, Broken}
use Rattle.llrp_operations.specs.declared.course.Saying.{Saying}
use Rattle.llrp_operations.specs.declared.course.Saying.TheVariants.{Asks, Acknowledges}
use Rattle.llrp_operations.specs.declared.course.Stage.TheVariants.{Ended}
use Rattle.llrp_operations.specs.Calls.Course.{Course, first_course, hear, lose, outcome, silent}

-- what happens to a client: it hears something, the time for what it waits for is over, or the connection is lost
pub data Event : Type 0 where
  Hears : Heard → Event
  Silence : Event
  Loss : Event

abbrev pub after : Event → Course → Course
after (Hears heard) c = hear heard c
after Silence c = silent c.stage c
after Loss c = lose c

abbrev pub follow : List Event → Course → Course
follow [] c = c
follow (event ∷ events) c = follow events (after event c)

-- it asks the reader to take the AccessSpec, without which no tag is operated on
abbrev pub adds : Saying → Bool
adds (Asks AddAccess) = true
adds _ = false

-- one EPC was seen, of some octets, and it is the one that is meant
abbrev pub SawOne : List ℕ → Course → Type 0
SawOne mask c = (epc : List ℕ) × (c.seen ≡ Some epc) × (c.several ≡ false) × (epc ≡ [] → ⊥) × ((mask ≡ []) ⊎ (mask ≡ epc))

-- where a tag is changed, the AccessSpec is added only if one EPC was seen that the mask selects, and it is the one that is meant
abbrev pub ChangesOne : Type 0
ChangesOne = (mask : List ℕ) (events : List Event) → list_any adds (follow events (first_course mask true)).said ≡ true → SawOne mask (follow events (first_course mask true))

-- ---- what may have been changed

-- it asks the reader to enable the AccessSpec, after which a tag may be operated on
abbrev pub enables : Saying → Bool
enables (Asks EnableAccess) = true
enables _ = false

-- it says that no tag was changed, without a refusal by the reader or several tags
abbrev pub denies_change : Outcome → Bool
denies_change NoEpc = true
denies_change NoTag = true
denies_change Broken = true
denies_change _ = false

-- where a tag is changed and the AccessSpec was enabled, no outcome says so
abbrev pub AdmitsChange : Type 0
AdmitsChange = (mask : List ℕ) (events : List Event) → list_any enables (follow events (first_course mask true)).said ≡ true → denies_change (outcome (follow events (first_course mask true))) ≡ false

-- ---- what is deleted

-- what is asked of the reader, in order
abbrev pub demands_in : List Saying → List Demand
demands_in [] = []
demands_in (Asks d ∷ ss) = d ∷ demands_in ss
demands_in (Acknowledges id ∷ ss) = demands_in ss

-- DELETE_ACCESSSPEC and DELETE_ROSPEC come first, as far as the course has come
abbrev pub BeginsWithDeletions : List Demand → Type 0
BeginsWithDeletions [] = Unit {0}
BeginsWithDeletions (d ∷ []) = d ≡ ClearAccess
BeginsWithDeletions (d ∷ e ∷ ds) = (d ≡ ClearAccess) × (e ≡ ClearInventory)

-- both come first, and again right before CLOSE_CONNECTION, the last; this comes between
abbrev pub with_deletions : List Demand → List Demand
with_deletions between = ClearAccess ∷ ClearInventory ∷ (between ++ RemoveAccess ∷ RemoveInventory ∷ Close ∷ [])

-- nothing was asked of a reader that did not accept the client, or both were deleted first and last
abbrev pub DeletedBoth : List Demand → Type 0
DeletedBoth ds = (ds ≡ []) ⊎ ((between : List Demand) × (ds ≡ with_deletions between))

-- Whatever happens: a course begins with both deletions, and where it has ended, without a lost connection, it ended with them.
pub record Deletes (mask : List ℕ) (changes : Bool) (events : List Event) : Type 0 where
  pub begins : BeginsWithDeletions (demands_in (follow events (first_course mask changes)).said)
  pub ends : (follow events (first_course mask changes)).stage ≡ Ended → DeletedBoth (demands_in (follow events (first_course mask changes)).said)

abbrev pub DeletesBoth : Type 0
DeletesBoth = (mask : List ℕ) (changes : Bool) (events : List Event) → Deletes mask changes events
