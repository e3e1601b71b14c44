-- ROSpecs with their states, in rising order of their ids: a reader's table, and a client's view of it.
use Rattle.std.specs.Prelude.{ℕ, suc, ◌+◌, ◌==◌, nat_lt, Bool, true, false, ◌||◌, ◌&&◌, List, [], ◌∷◌, Option, None, Some, if◌then◌else◌}
use Rattle.llrp_schema.specs.declared.kinds.ParamKind.TheVariants.{RoSpec as RoSpecKind}
use Rattle.llrp_tree.specs.Tree.{Tree}
use Rattle.llrp_session.specs.RoSpec.{RoSpec, field_of}
pub use Rattle.llrp_session.specs.declared.reader.table.Entry.{Entry}  -- an entry of a reader's table: a ROSpec and its state
pub use Rattle.llrp_session.specs.declared.types.RoState.{RoState}
pub use Rattle.llrp_session.specs.declared.types.RoState.TheVariants.{Disabled, Inactive, Active}
pub use Rattle.llrp_session.specs.declared.types.Viewed.{Viewed}  -- an entry of a client's view

-- the states of a table, as a client sees them
abbrev pub states : List Entry → List Viewed
states [] = []
states (e ∷ es) = record { id = e.spec.id; state = e.state } ∷ states es

abbrev pub is_disabled : RoState → Bool
is_disabled Disabled = true
is_disabled Inactive = false
is_disabled Active = false

abbrev pub is_inactive : RoState → Bool
is_inactive Disabled = false
is_inactive Inactive = true
is_inactive Active = false

abbrev pub is_active : RoState → Bool
is_active Disabled = false
is_active Inactive = false
is_active Active = true

-- the CurrentState of a ROSpec (LLRP 1.1, section 11)
abbrev pub state_number : RoState → ℕ
state_number Disabled = 0
state_number Inactive = 1
state_number Active = 2

-- a ROSpec as it was added, but with its present state; the fields of a ROSpec are ROSpecID, Priority and CurrentState, and it has no tail
abbrev pub as_listed : Entry → Tree
as_listed e = record {
  kind = RoSpecKind;
  fields = e.spec.id ∷ field_of 1 (Some e.spec.tree) ∷ state_number e.state ∷ [];
  tail = [];
  children = e.spec.tree.children;
}

-- the ROSpecs of a table, as they are listed
abbrev pub listing : List Entry → List Tree
listing [] = []
listing (e ∷ es) = as_listed e ∷ listing es

-- 0 names every ROSpec
abbrev pub names : ℕ → ℕ → Bool
names n id = (n == 0) || (n == id)

-- ---- changes of a state, by the id of the ROSpec

-- enabling makes a Disabled one Inactive, and leaves the others
abbrev pub enabled : RoState → RoState
enabled Disabled = Inactive
enabled Inactive = Inactive
enabled Active = Active

abbrev pub enabling : ℕ → ℕ → RoState → RoState
enabling n id state = if names n id then enabled state else state

abbrev pub disabling : ℕ → ℕ → RoState → RoState
disabling n id state = if names n id then Disabled else state

abbrev pub setting : ℕ → RoState → ℕ → RoState → RoState
setting n to id state = if n == id then to else state

-- ---- the reader's table

-- each state is changed
unfoldable pub change : (ℕ → RoState → RoState) → List Entry → List Entry
change f [] = []
change f (e ∷ es) = record { spec = e.spec; state = f e.spec.id e.state } ∷ change f es

-- the entries that are not named
unfoldable pub without : ℕ → List Entry → List Entry
without n [] = []
without n (e ∷ es) = if names n e.spec.id then without n es else e ∷ without n es

abbrev new_entry : RoSpec → Entry
new_entry s = record { spec = s; state = Disabled }

-- a ROSpec is entered, Disabled
unfoldable pub enter : RoSpec → List Entry → List Entry
enter s [] = new_entry s ∷ []
enter s (e ∷ es) =
    if s.id == e.spec.id then new_entry s ∷ es else (if nat_lt s.id e.spec.id then new_entry s ∷ e ∷ es else e ∷ enter s es)

unfoldable pub state_of : ℕ → List Entry → Option RoState
state_of id [] = None
state_of id (e ∷ es) = if id == e.spec.id then Some e.state else state_of id es

-- the lengths of all ROSpecs together
unfoldable pub octets_of : List Entry → ℕ
octets_of [] = 0
octets_of (e ∷ es) = e.spec.octets + octets_of es

-- the active ROSpec
unfoldable pub active : List Entry → Option RoSpec
active [] = None
active (e ∷ es) = if is_active e.state then Some e.spec else active es

-- the ROSpec with the lowest id among those named that are Disabled and start by themselves (start trigger 1, immediate)
unfoldable pub first_immediate : ℕ → List Entry → Option RoSpec
first_immediate n [] = None
first_immediate n (e ∷ es) =
    if names n e.spec.id && (is_disabled e.state && (e.spec.start_trigger == 1)) then Some e.spec else first_immediate n es

-- ---- the client's view

unfoldable pub change_view : (ℕ → RoState → RoState) → List Viewed → List Viewed
change_view f [] = []
change_view f (v ∷ vs) = record { id = v.id; state = f v.id v.state } ∷ change_view f vs

unfoldable pub view_without : ℕ → List Viewed → List Viewed
view_without n [] = []
view_without n (v ∷ vs) = if names n v.id then view_without n vs else v ∷ view_without n vs

abbrev pub new_viewed : ℕ → Viewed
new_viewed id = record { id = id; state = Disabled }

unfoldable pub enter_view : ℕ → List Viewed → List Viewed
enter_view id [] = new_viewed id ∷ []
enter_view id (v ∷ vs) =
    if id == v.id then new_viewed id ∷ vs else (if nat_lt id v.id then new_viewed id ∷ v ∷ vs else v ∷ enter_view id vs)

unfoldable pub viewed_state : ℕ → List Viewed → Option RoState
viewed_state id [] = None
viewed_state id (v ∷ vs) = if id == v.id then Some v.state else viewed_state id vs

-- ---- order, and how many are active

unfoldable pub active_count : List Entry → ℕ
active_count [] = 0
active_count (e ∷ es) = if is_active e.state then suc (active_count es) else active_count es
