-- Lists of octets.
use Rattle.std.proofs.Common.{◌≡◌, ℕ, suc, List, [], ◌∷◌, ◌++◌, get_or, arith, Fits, w8, true, false, refl}
use Rattle.std.specs.Str.{IsUtf8, is_utf8}
use Rattle.std.proofs.lemmas.Str.{IsUtf8-from_is_utf8}
use Rattle.llrp_tree.specs.Lawful.{AreOctets}

pub are_octets : (os : List ℕ) → ((i : ℕ) → Fits w8 (get_or os i 0)) → AreOctets os
are_octets [] h = tt
are_octets (o ∷ os) h = (omega (arith, h 0), are_octets os (λ i. h (suc i)))

pub octets-append : (xs ys : List ℕ) → AreOctets xs → AreOctets ys → AreOctets (xs ++ ys)
octets-append [] ys h g = g
octets-append (x ∷ xs) ys h g = (h.0, octets-append xs ys h.1 g)

pub not_utf8 : (os : List ℕ) → (IsUtf8 os → ⊥) → false ≡ is_utf8 os
not_utf8 os h =
    (elim (is_utf8 os) as (λ b. is_utf8 os ≡ b → false ≡ b) [ true ↦ λ e. absurd (h (IsUtf8-from_is_utf8 os e)) | false ↦ λ e. refl ]) refl
