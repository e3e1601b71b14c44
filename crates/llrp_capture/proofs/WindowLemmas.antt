-- Lists of places: what is put into them, and what stands first.
use Rattle.std.proofs.Common.{◌≡◌, ◌∙◌, ℕ, zero, suc, inl, inr, ◌+◌, ◌-◌, ◌≤◌, ◌<◌, Bool, true, false, cond, List, [], ◌∷◌, ◌++◌, length, get_or, refl, sym, ap, subst, arith}
use Rattle.std.specs.Prelude.{◌≢◌, ◌⊎◌, nat_le, Option, Some, None, replicate, slice_get, max}
use Rattle.std.proofs.lemmas.Bool.{cases_lt}
use Rattle.std.proofs.lemmas.Bool.Decides.{nat_tests}
use Rattle.std.proofs.lemmas.List.{length-append}
use Rattle.std.proofs.lemmas.Option.{slice_get_past, slice_get-get_or}
use Rattle.llrp_capture.specs.Calls.Pieces.{octet_in, or_else, at_place}

-- ---- reading and putting

-- past the end there is none
pub at_place_past : (xs : List (Option ℕ)) (k : ℕ) → length xs ≤ k → at_place xs k ≡ None
at_place_past [] k h = refl
at_place_past (x ∷ xs) zero h = absurd (omega arith)
at_place_past (x ∷ xs) (suc k) h = at_place_past xs k (omega arith)

at_place_none : (n k : ℕ) → at_place (replicate n None) k ≡ None
at_place_none zero k = refl
at_place_none (suc n) zero = refl
at_place_none (suc n) (suc k) = at_place_none n k

-- places without an octet change nothing at the end
pub at_place_longer : (xs : List (Option ℕ)) (n k : ℕ) → at_place (xs ++ replicate n None) k ≡ at_place xs k
at_place_longer [] n k = at_place_none n k
at_place_longer (x ∷ xs) n zero = refl
at_place_longer (x ∷ xs) n (suc k) = at_place_longer xs n k

pub or_else_none : (o : Option ℕ) → or_else o None ≡ o
or_else_none None = refl
or_else_none (Some x) = refl

-- before a piece it has no octet
pub octet_before : (place : ℕ) (octets : List ℕ) (k : ℕ) → k < place → octet_in (record { place = place; octets = octets }) k ≡ None
octet_before place octets k h =
    let e : nat_le place k ≡ false = grind (arith, nat_tests) in
    ap (λ (b : Bool). cond b (slice_get octets (k - place)) None) e

-- and none after it
pub octet_after : (place : ℕ) (octets : List ℕ) (k : ℕ) → place + length octets ≤ k → octet_in (record { place = place; octets = octets }) k ≡ None
octet_after place octets k h =
    let e : nat_le place k ≡ true = grind (arith, nat_tests) in
    ap (λ (b : Bool). cond b (slice_get octets (k - place)) None) e ∙ slice_get_past octets (k - place) (omega arith)

pub octet_within : (place : ℕ) (octets : List ℕ) (k : ℕ) → k < length octets → octet_in (record { place = place; octets = octets }) (place + k) ≡ Some (get_or octets k 0)
octet_within place octets k h =
    let e : nat_le place (place + k) ≡ true = grind (arith, nat_tests) in
    let i : place + k - place ≡ k = omega arith in
    ap (λ (b : Bool). cond b (slice_get octets (place + k - place)) None) e
    ∙ ap (λ (n : ℕ). slice_get octets n) i ∙ slice_get-get_or octets k 0 h

-- ---- covering

-- a number below the next one of another
below_or_at : (k n : ℕ) → k < n + 1 → (k < n) ⊎ (k ≡ n)
below_or_at k n h = elim (cases_lt k n) [ inl l ↦ inl l | inr r ↦ inr (omega arith) ]

-- the first octets of a piece were put into places
pub record Covers (old : List (Option ℕ)) (ahead : ℕ) (octets : List ℕ) (count : ℕ) (new : List (Option ℕ)) : Type 0 where
  pub size : length new ≡ max (length old) (ahead + length octets)
  pub done : (k : ℕ) → k < ahead + count → at_place new k ≡ or_else (at_place old k) (octet_in (record { place = ahead; octets = octets }) k)
  pub open_ones : (k : ℕ) → ahead + count ≤ k → at_place new k ≡ at_place old k

pub covers_none : (old new : List (Option ℕ)) (ahead : ℕ) (octets : List ℕ) → length new ≡ max (length old) (ahead + length octets) → ((k : ℕ) → at_place new k ≡ at_place old k) → Covers old ahead octets 0 new
covers_none old new ahead octets size same = record {
  size = size;
  done = λ k h. same k ∙ sym (ap (or_else (at_place old k)) (octet_before ahead octets k (omega arith)) ∙ or_else_none (at_place old k));
  open_ones = λ k h. same k;
}

pub covers_more : (old new next : List (Option ℕ)) (ahead : ℕ) (octets : List ℕ) (count : ℕ) → Covers old ahead octets count new → count < length octets
    → length next ≡ length new → at_place next (ahead + count) ≡ or_else (at_place new (ahead + count)) (Some (get_or octets count 0))
    → ((k : ℕ) → k ≢ ahead + count → at_place next k ≡ at_place new k) → Covers old ahead octets (count + 1) next
covers_more old new next ahead octets count c h size place others = record {
  size = size ∙ c.size;
  done = λ k b. elim (below_or_at k (ahead + count) (omega arith)) [
    | inl l ↦ others k (λ e. omega arith) ∙ c.done k l
    | inr e ↦ subst (λ (n : ℕ). at_place next n ≡ or_else (at_place old n) (octet_in (record { place = ahead; octets = octets }) n)) (sym e)
        (place ∙ ap (λ (o : Option ℕ). or_else o (Some (get_or octets count 0))) (c.open_ones (ahead + count) (omega arith))
        ∙ ap (or_else (at_place old (ahead + count))) (sym (octet_within ahead octets count h)))
  ];
  open_ones = λ k b. others k (λ e. omega arith) ∙ c.open_ones k (omega arith);
}

pub covered : (old new : List (Option ℕ)) (ahead : ℕ) (octets : List ℕ) (count : ℕ) → length octets ≤ count → Covers old ahead octets count new
    → (k : ℕ) → at_place new k ≡ or_else (at_place old k) (octet_in (record { place = ahead; octets = octets }) k)
covered old new ahead octets count h c k = elim (cases_lt k (ahead + count)) [
  | inl l ↦ c.done k l
  | inr r ↦ c.open_ones k r ∙ sym (ap (or_else (at_place old k)) (octet_after ahead octets k (omega arith)) ∙ or_else_none (at_place old k))
]

-- ---- what stands first

pub slice_get_append_left : (xs ys : List ℕ) (k : ℕ) → k < length xs → slice_get (xs ++ ys) k ≡ slice_get xs k
slice_get_append_left [] ys k h = absurd (omega arith)
slice_get_append_left (x ∷ xs) ys zero h = refl
slice_get_append_left (x ∷ xs) ys (suc k) h = slice_get_append_left xs ys k (omega arith)

pub slice_get_append_right : (xs ys : List ℕ) (k : ℕ) → slice_get (xs ++ ys) (length xs + k) ≡ slice_get ys k
slice_get_append_right [] ys k = let e : 0 + k ≡ k = omega arith in ap (slice_get ys) e
slice_get_append_right (x ∷ xs) ys k =
    let e : suc (length xs) + k ≡ suc (length xs + k) = omega arith in
    ap (slice_get (x ∷ (xs ++ ys))) e ∙ slice_get_append_right xs ys k

-- the places before one have these octets, each of them
pub record Fills (waiting : List (Option ℕ)) (count : ℕ) (octets : List ℕ) : Type 0 where
  pub size : length octets ≡ count
  pub has : (k : ℕ) → k < count → at_place waiting k ≡ slice_get octets k

pub fills_none : (waiting : List (Option ℕ)) → Fills waiting 0 []
fills_none waiting = record { size = refl; has = λ k h. absurd (omega arith) }

pub fills_more : (waiting : List (Option ℕ)) (count : ℕ) (octets : List ℕ) (octet : ℕ) → Fills waiting count octets → at_place waiting count ≡ Some octet → Fills waiting (count + 1) (octets ++ octet ∷ [])
fills_more waiting count octets octet f e = record {
  size = length-append octets (octet ∷ []) ∙ (let c : length octets ≡ count = f.size in omega arith);
  has = λ k b. elim (below_or_at k count b) [
    | inl l ↦ f.has k l ∙ sym (slice_get_append_left octets (octet ∷ []) k (let c : length octets ≡ count = f.size in omega arith))
    | inr s ↦ ap (at_place waiting) s ∙ e ∙ sym (ap (slice_get (octets ++ octet ∷ [])) (s ∙ sym f.size ∙ (omega arith)) ∙ slice_get_append_right octets (octet ∷ []) 0)
  ];
}
