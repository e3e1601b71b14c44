-- A table is a finite map from ids to states, and a view is too.
use Rattle.std.specs.Prelude.{◌≡◌, ℕ, ◌==◌, List, None, Some, if◌then◌else◌}
use Rattle.std.specs.Option.{option_map}
use Rattle.llrp_session.specs.RoSpec.{RoSpec}
use Rattle.llrp_session.specs.Table.{Entry, Viewed, RoState, Disabled, states, names, state_of, enter, change, without, viewed_state, enter_view, change_view, view_without}
use Rattle.llrp_session.specs.Calls.Table.{AllAbove, IsRising}
use Rattle.llrp_session.specs.Sightings.{History}

-- to enter a ROSpec sets the state of its id to Disabled, and no other
abbrev pub EntersOne : Type 0
EntersOne = (s : RoSpec) (table : List Entry) (id : ℕ) → state_of id (enter s table) ≡ (if id == s.id then Some Disabled else state_of id table)

-- to change a table changes the state of each id
abbrev pub ChangesEach : Type 0
ChangesEach = (f : ℕ → RoState → RoState) (table : List Entry) (id : ℕ) → state_of id (change f table) ≡ option_map (f id) (state_of id table)

-- to remove those named removes their states, and no other
abbrev pub RemovesThoseNamed : Type 0
RemovesThoseNamed = (n : ℕ) (table : List Entry) (id : ℕ) → state_of id (without n table) ≡ (if names n id then None else state_of id table)

abbrev pub EntersOneInView : Type 0
EntersOneInView = (new : ℕ) (view : List Viewed) (id : ℕ) → viewed_state id (enter_view new view) ≡ (if id == new then Some Disabled else viewed_state id view)

abbrev pub ChangesEachInView : Type 0
ChangesEachInView = (f : ℕ → RoState → RoState) (view : List Viewed) (id : ℕ) → viewed_state id (change_view f view) ≡ option_map (f id) (viewed_state id view)

abbrev pub RemovesThoseNamedInView : Type 0
RemovesThoseNamedInView = (n : ℕ) (view : List Viewed) (id : ℕ) → viewed_state id (view_without n view) ≡ (if names n id then None else viewed_state id view)

-- a client that sees the states of a table sees the state of each id
abbrev pub SeesEach : Type 0
SeesEach = (table : List Entry) (id : ℕ) → viewed_state id (states table) ≡ state_of id table

-- each id is in the table once, in rising order, and 0 is not
abbrev pub EachOnce : History → Type 0
EachOnce h = IsRising h.reader.table × AllAbove 0 h.reader.table
