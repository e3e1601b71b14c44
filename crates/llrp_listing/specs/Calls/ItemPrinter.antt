-- What a printer of a stream's items holds.
use Rattle.std.specs.Prelude.{◌≡◌, ℕ, ◌≤◌, ◌⊎◌, List, length, take, drop}
use Rattle.llrp_stream.specs.declared.item.Item.{Item}
use Rattle.llrp_tree.specs.OpenTree.{Begun}

-- it holds this text of earlier items, and perhaps more, of an unfinished message
abbrev pub HasText : (begins stands : List ℕ → List Begun → Type 0) → List ℕ → Type 0
HasText begins stands was = (t : List Begun) × ((begins was t) ⊎ (stands was t))

-- an item has one text at most
abbrev pub HasOneText : (Item → List ℕ → Type 0) → Type 0
HasOneText IsText = (item : Item) (s t : List ℕ) → IsText item s → IsText item t → s ≡ t

-- up to a mark a text is this, and after it comes such a text
abbrev pub IsMarked : ℕ → List ℕ → List ℕ → (List ℕ → Type 0) → Type 0
IsMarked mark text was IsRest = (mark ≤ length text) × (take mark text ≡ was) × IsRest (drop mark text)
