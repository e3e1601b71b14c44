-- One rule at most is the first that refuses a text as that of a key.
use Rattle.std.proofs.Common.{◌≡◌, ℕ, ◌<◌, ◌≤◌, true, List, [], ◌∷◌, ◌++◌, length, take, drop, refl, sym, ap, ◌∙◌, subst, arith, inl, inr}
use Rattle.std.specs.List.{join_with_byte}
use Rattle.std.proofs.lemmas.Bool.{true≢false}
use Rattle.std.proofs.lemmas.List.{append_cancel_left}
use Rattle.tag_epc.specs.declared.kind.Kind.TheVariants.{Gdti, Gsrn}
use Rattle.tag_uri.specs.declared.fault.UriFault.{UriFault}
use Rattle.tag_uri.specs.Calls.Decimal.{AreDigits}
use Rattle.tag_uri.specs.Decimal.{padded}
use Rattle.tag_uri.specs.TagText.{is_strange}
use Rattle.tag_schemes.specs.declared.scheme.Scheme.{Scheme}
use Rattle.tag_schemes.specs.declared.scheme.Scheme.TheVariants.{Giai, Gsrnp, Sgcn, Cpi}
use Rattle.tag_schemes.specs.Texts.{HasFaultIn}
use Rattle.tag_keys.specs.declared.fault.KeyFault.{KeyFault}
use Rattle.tag_keys.specs.declared.fault.KeyFault.TheVariants as key
use Rattle.tag_keys.specs.declared.spelling.Spelling.{Spelling}
use Rattle.tag_keys.specs.KeyFaults.{IsNumber, HasKeyFault}
use Rattle.tag_keys.proofs.PieceLemmas.{not_strange}
use Rattle.tag_keys.proofs.OneFault.{one_key_fault}
use Rattle.tag_scheme_keys.specs.KeyText.{gap}
use Rattle.tag_scheme_keys.specs.KeyFaults.{AssetFails, PartFails, FailsAfter, HasKeyFaultIn, IsWithOne, part_front, serial_mark, older_start}
use Rattle.tag_scheme_keys.proofs.OlderKeys.{one_split}
use Rattle.tag_scheme_keys.proofs.KeyLaws.{one_start_in}
use Rattle.tag_scheme_keys.proofs.OneFault.{one_fault_with}

few_many : (l n : ℕ) → l ≤ n → n < l → ⊥
few_many l n a b = omega (arith, a, b)

strange_digits : (x : List ℕ) → is_strange x ≡ true → AreDigits x → ⊥
strange_digits x a h = true≢false (sym a ∙ not_strange x h)

-- ---- GIAI-96

module _ (filter n : ℕ) (rest : List ℕ) where
  data ToldAsset (f : KeyFault) : Type 0 where
    few_asset : f ≡ key.Length → length rest ≤ n → ToldAsset f
    strange_asset : f ≡ key.Digit → n < length rest → is_strange rest ≡ true → ToldAsset f
    tag_asset : (u : UriFault) → f ≡ key.Tag u → n < length rest → AreDigits rest → HasFaultIn Giai (join_with_byte 46 (padded 1 filter ∷ take n rest ∷ drop n rest ∷ [])) u → ToldAsset f

  told_asset : (f : KeyFault) → AssetFails filter n rest f → ToldAsset f
  told_asset key.Length h = few_asset refl h
  told_asset key.Digit h = strange_asset refl h.0 h.1
  told_asset (key.Tag u) h = tag_asset u refl h.0 h.1 h.2
  told_asset key.Long h = absurd h
  told_asset key.Start h = absurd h
  told_asset key.Scheme h = absurd h
  told_asset (key.Check right) h = absurd h
  told_asset key.Serial h = absurd h

  one_asset : (f g : KeyFault) → ToldAsset f → ToldAsset g → f ≡ g
  one_asset f g (few_asset ae a) (few_asset be b) = ae ∙ sym be
  one_asset f g (few_asset ae a) (strange_asset be b bx) = absurd (few_many (length rest) n a b)
  one_asset f g (few_asset ae a) (tag_asset bu be b bd bx) = absurd (few_many (length rest) n a b)
  one_asset f g (strange_asset ae a ax) (few_asset be b) = absurd (few_many (length rest) n b a)
  one_asset f g (strange_asset ae a ax) (strange_asset be b bx) = ae ∙ sym be
  one_asset f g (strange_asset ae a ax) (tag_asset bu be b bd bx) = absurd (strange_digits rest ax bd)
  one_asset f g (tag_asset au ae a ad ax) (few_asset be b) = absurd (few_many (length rest) n b a)
  one_asset f g (tag_asset au ae a ad ax) (strange_asset be b bx) = absurd (strange_digits rest bx ad)
  one_asset f g (tag_asset au ae a ad ax) (tag_asset bu be b bd bx) = ae ∙ ap key.Tag (one_fault_with Giai _ au bu ax bx) ∙ sym be

  pub one_asset_fault : (f g : KeyFault) → AssetFails filter n rest f → AssetFails filter n rest g → f ≡ g
  one_asset_fault f g a b = one_asset f g (told_asset f a) (told_asset g b)

-- ---- SGCN-96

one_with : (s : Spelling) (rest x y : List ℕ) → IsWithOne s rest x → IsWithOne s rest y → x ≡ y
one_with s rest x y (inl a) (inl b) =
    let p = one_split s rest a.0 a.1 b.0 b.1 a.2 b.2 in
    a.3 ∙ ap (λ (d : List ℕ). d ++ (gap s ++ 49 ∷ a.1)) p.0 ∙ ap (λ (z : List ℕ). b.0 ++ (gap s ++ 49 ∷ z)) p.1 ∙ sym b.3
one_with s rest x y (inl a) (inr b) = absurd (b.0 a.0 a.1 a.2)
one_with s rest x y (inr a) (inl b) = absurd (a.0 b.0 b.1 b.2)
one_with s rest x y (inr a) (inr b) = a.1 ∙ sym b.1

-- ---- CPI-96

module _ (s : Spelling) (filter n : ℕ) (rest : List ℕ) where
  abbrev front : List ℕ
  front = part_front s rest

  abbrev part_tag : List ℕ → List ℕ
  part_tag x = join_with_byte 46 (padded 1 filter ∷ take n front ∷ drop n front ∷ x ∷ [])

  data ToldPart (f : KeyFault) : Type 0 where
    few_part : f ≡ key.Length → length front ≤ n → ToldPart f
    strange_part : f ≡ key.Digit → n < length front → is_strange front ≡ true → ToldPart f
    serial_part : f ≡ key.Serial → n < length front → AreDigits front → ((x : List ℕ) → IsNumber x → rest ≡ front ++ (serial_mark s ++ x) → ⊥) → ToldPart f
    tag_part : (u : UriFault) → f ≡ key.Tag u → n < length front → AreDigits front → (x : List ℕ) → IsNumber x → rest ≡ front ++ (serial_mark s ++ x) → HasFaultIn Cpi (part_tag x) u → ToldPart f

  told_part : (f : KeyFault) → PartFails s filter n rest f → ToldPart f
  told_part key.Length h = few_part refl h
  told_part key.Digit h = strange_part refl h.0 h.1
  told_part key.Serial h = serial_part refl h.0 h.1 h.2
  told_part (key.Tag u) h = tag_part u refl h.0 h.1 h.2 h.3 h.4 h.5
  told_part key.Long h = absurd h
  told_part key.Start h = absurd h
  told_part key.Scheme h = absurd h
  told_part (key.Check right) h = absurd h

  one_number : (x y : List ℕ) (u v : UriFault) → rest ≡ front ++ (serial_mark s ++ x) → rest ≡ front ++ (serial_mark s ++ y) → HasFaultIn Cpi (part_tag x) u → HasFaultIn Cpi (part_tag y) v → u ≡ v
  one_number x y u v a b h k =
      let same : x ≡ y = append_cancel_left (serial_mark s) x y (append_cancel_left front _ _ (sym a ∙ b)) in
      one_fault_with Cpi (part_tag y) u v (subst (λ (z : List ℕ). HasFaultIn Cpi (part_tag z) u) same h) k

  one_part : (f g : KeyFault) → ToldPart f → ToldPart g → f ≡ g
  one_part f g (few_part ae a) (few_part be b) = ae ∙ sym be
  one_part f g (few_part ae a) (strange_part be b bx) = absurd (few_many (length front) n a b)
  one_part f g (few_part ae a) (serial_part be b bd bx) = absurd (few_many (length front) n a b)
  one_part f g (few_part ae a) (tag_part bu be b bd bs bn bw bx) = absurd (few_many (length front) n a b)
  one_part f g (strange_part ae a ax) (few_part be b) = absurd (few_many (length front) n b a)
  one_part f g (strange_part ae a ax) (strange_part be b bx) = ae ∙ sym be
  one_part f g (strange_part ae a ax) (serial_part be b bd bx) = absurd (strange_digits front ax bd)
  one_part f g (strange_part ae a ax) (tag_part bu be b bd bs bn bw bx) = absurd (strange_digits front ax bd)
  one_part f g (serial_part ae a ad ax) (few_part be b) = absurd (few_many (length front) n b a)
  one_part f g (serial_part ae a ad ax) (strange_part be b bx) = absurd (strange_digits front bx ad)
  one_part f g (serial_part ae a ad ax) (serial_part be b bd bx) = ae ∙ sym be
  one_part f g (serial_part ae a ad ax) (tag_part bu be b bd bs bn bw bx) = absurd (ax bs bn bw)
  one_part f g (tag_part au ae a ad at an aw ax) (few_part be b) = absurd (few_many (length front) n b a)
  one_part f g (tag_part au ae a ad at an aw ax) (strange_part be b bx) = absurd (strange_digits front bx ad)
  one_part f g (tag_part au ae a ad at an aw ax) (serial_part be b bd bx) = absurd (bx at an aw)
  one_part f g (tag_part au ae a ad at an aw ax) (tag_part bu be b bd bs bn bw bx) = ae ∙ ap key.Tag (one_number at bs au bu aw bw ax bx) ∙ sym be

  pub one_part_fault : (f g : KeyFault) → PartFails s filter n rest f → PartFails s filter n rest g → f ≡ g
  one_part_fault f g a b = one_part f g (told_part f a) (told_part g b)

-- ---- all schemes

one_after : (z : Scheme) (s : Spelling) (filter n : ℕ) (rest : List ℕ) (f g : KeyFault) → FailsAfter z s filter n rest f → FailsAfter z s filter n rest g → f ≡ g
one_after Giai s filter n rest f g a b = one_asset_fault filter n rest f g a b
one_after Gsrnp s filter n rest f g a b = one_key_fault s filter n (older_start s Gsrn ++ rest) f g a b
one_after Sgcn s filter n rest f g a b =
    let same = one_with s rest a.0 b.0 a.1 b.1 in
    one_key_fault s filter n (older_start s Gdti ++ b.0) f g (subst (λ (x : List ℕ). HasKeyFault s filter n (older_start s Gdti ++ x) f) same a.2) b.2
one_after Cpi s filter n rest f g a b = one_part_fault s filter n rest f g a b

pub one_key_fault_in : (s : Spelling) (filter n : ℕ) (text : List ℕ) (f g : KeyFault) → HasKeyFaultIn s filter n text f → HasKeyFaultIn s filter n text g → f ≡ g
one_key_fault_in s filter n text f g (inl a) (inl b) = a.0 ∙ sym b.0
one_key_fault_in s filter n text f g (inl a) (inr (inl b)) = absurd (few_many (length text) 72 b.1 a.1)
one_key_fault_in s filter n text f g (inl a) (inr (inr b)) = absurd (few_many (length text) 72 b.0 a.1)
one_key_fault_in s filter n text f g (inr (inl a)) (inl b) = absurd (few_many (length text) 72 a.1 b.1)
one_key_fault_in s filter n text f g (inr (inl a)) (inr (inl b)) = a.0 ∙ sym b.0
one_key_fault_in s filter n text f g (inr (inl a)) (inr (inr b)) = absurd (a.2 b.1 b.2 b.3)
one_key_fault_in s filter n text f g (inr (inr a)) (inl b) = absurd (few_many (length text) 72 a.0 b.1)
one_key_fault_in s filter n text f g (inr (inr a)) (inr (inl b)) = absurd (b.2 a.1 a.2 a.3)
one_key_fault_in s filter n text f g (inr (inr a)) (inr (inr b)) =
    let p = one_start_in s a.1 b.1 a.2 b.2 (sym a.3.begins ∙ b.3.begins) in
    one_after b.1 s filter n b.2 f g (subst (λ (x : List ℕ). FailsAfter b.1 s filter n x f) p.1 (subst (λ (z : Scheme). FailsAfter z s filter n a.2 f) p.0 a.4)) b.4
