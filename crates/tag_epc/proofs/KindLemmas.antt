-- Every scheme is in the list of all.
use Rattle.std.proofs.Common.{◌≡◌, ◌<◌, ℕ, suc, List, [], ◌∷◌, length, Some, true, ◌==◌, cond, nat_lt, refl}
use Rattle.std.proofs.lemmas.Bool.{ltb-true}
use Rattle.std.specs.Prelude.{slice_get}
use Rattle.tag_epc.specs.declared.kind.Kind.{Kind}
use Rattle.tag_epc.specs.declared.kind.Kind.TheVariants.{Sgtin}
use Rattle.tag_epc.specs.Private.Layout.{every_kind}
use Rattle.tag_epc.specs.Layout.{header_of}

-- how many kinds come before the one with a header
abbrev pub place_in : List Kind → ℕ → ℕ
place_in [] header = 0
place_in (k ∷ ks) header = cond (header_of k == header) 0 (suc (place_in ks header))

-- where a kind is among all
abbrev pub place_of : Kind → ℕ
place_of k = place_in every_kind (header_of k)

pub listed : (k : Kind) → slice_get every_kind (place_of k) ≡ Some k
listed Sgtin = refl
listed _ = refl

within : (k : Kind) → nat_lt (place_of k) (length every_kind) ≡ true
within Sgtin = refl
within _ = refl

pub below : (k : Kind) → place_of k < length every_kind
below k = ltb-true (place_of k) (length every_kind) (within k)

-- what is said of each kind in the list is said of every kind
pub every : (P : Kind → Type 0) → ((i : ℕ) (k : Kind) → i < length every_kind → slice_get every_kind i ≡ Some k → P k) → (k : Kind) → P k
every P h k = h (place_of k) k (below k) (listed k)
