-- Lists whose items are related place by place.
use Rattle.std.proofs.Common.{◌≡◌, suc, List, [], ◌∷◌, ◌++◌, length, refl, ap}
use Rattle.std.specs.List.{AllZip}

pub zip_length : {X Y : Type 0} (P : X → Y → Type 0) (xs : List X) (ys : List Y) → AllZip P xs ys → length xs ≡ length ys
zip_length P [] [] z = refl
zip_length P [] (y ∷ ys) z = absurd z
zip_length P (x ∷ xs) [] z = absurd z
zip_length P (x ∷ xs) (y ∷ ys) z = ap suc (zip_length P xs ys z.1)

pub zip_append : {X Y : Type 0} (P : X → Y → Type 0) (xs xs' : List X) (ys ys' : List Y) → AllZip P xs ys → AllZip P xs' ys' → AllZip P (xs ++ xs') (ys ++ ys')
zip_append P [] xs' [] ys' p q = q
zip_append P [] xs' (y ∷ ys) ys' p q = absurd p
zip_append P (x ∷ xs) xs' [] ys' p q = absurd p
zip_append P (x ∷ xs) xs' (y ∷ ys) ys' p q = (p.0, zip_append P xs xs' ys ys' p.1 q)
