-- Beside Table: what contracts say that no promise rests on.
use Rattle.std.specs.Prelude.{ℕ, ◌<◌, List, [], ◌∷◌}
use Rattle.llrp_session.specs.declared.reader.table.Entry.{Entry}  -- an entry of a reader's table: a ROSpec and its state

-- ---- order, and how many are active

-- each id is above this one
unfoldable pub AllAbove : ℕ → List Entry → Type 0
AllAbove n [] = Unit {0}
AllAbove n (e ∷ es) = (n < e.spec.id) × AllAbove n es

-- the ids rise, so each is there once
unfoldable pub IsRising : List Entry → Type 0
IsRising [] = Unit {0}
IsRising (e ∷ es) = AllAbove e.spec.id es × IsRising es
