-- What holds of the entries that are found.
use Rattle.std.proofs.Common.{◌≡◌, ◌<◌, ◌≤◌, ◌⊎◌, inl, inr, ⊎_elim, ℕ, suc, List, [], ◌∷◌, Option, None, Some, Bool, true, false, if◌then◌else◌, refl, ap, ◌∙◌, subst, rules, arith, le_refl}
use Rattle.std.specs.List.{AllByRecursion, Contains}
use Rattle.std.proofs.lemmas.List.Elements.{All-from_recursion}
use Rattle.llrp_power.specs.declared.entries.PowerEntry.{PowerEntry}
use Rattle.llrp_power.specs.Calls.Entries.{entry_from, entry_within, is_better, least_from, least_level, least_of}
use Rattle.llrp_power.specs.Calls.Laws.{HasLeast, Takes}

-- ---- being in a list

pub first_is_there : (e : PowerEntry) (es : List PowerEntry) → Contains (e ∷ es) e
first_is_there e es = (0, omega arith, refl)

pub later_is_there : (d e : PowerEntry) (es : List PowerEntry) → Contains es e → Contains (d ∷ es) e
later_is_there d e es c = (suc c.0, omega (arith, c.1), c.2)

-- ---- the greatest

-- none was found, or one that has no more power than this level
abbrev IsUpTo : ℕ → Option PowerEntry → Type 0
IsUpTo level None = Unit {0}
IsUpTo level (Some e) = e.level ≤ level

-- it was found, or it is in the list
abbrev IsFoundOrIn : Option PowerEntry → List PowerEntry → PowerEntry → Type 0
IsFoundOrIn found entries taken = (found ≡ Some taken) ⊎ Contains entries taken

-- what holds of the outcome, where this was found before these entries
abbrev Follows : (most : ℕ) → Option PowerEntry → List PowerEntry → Option PowerEntry → Type 0
Follows most found entries None = (found ≡ None) × AllByRecursion (λ e. most < e.level) entries
Follows most found entries (Some taken) = IsFoundOrIn found entries taken × IsUpTo taken.level found × (taken.level ≤ most) × AllByRecursion (λ e. e.level ≤ most → e.level ≤ taken.level) entries

found_alone : (most : ℕ) (found : Option PowerEntry) → IsUpTo most found → Follows most found [] found
found_alone most None within = (refl, tt)
found_alone most (Some e) within = (inl refl, (le_refl _), within, tt)

better_is_within : (most : ℕ) (found : Option PowerEntry) (e : PowerEntry) → is_better most found e ≡ true → e.level ≤ most
better_is_within most None e h = grind arith
better_is_within most (Some b) e h = grind arith

better_has_more : (most : ℕ) (found : Option PowerEntry) (e : PowerEntry) (level : ℕ) → is_better most found e ≡ true → e.level ≤ level → IsUpTo level found
better_has_more most None e level h up = tt
better_has_more most (Some b) e level h up = grind arith

-- a better one is taken in place of the one before
taken_on : (most : ℕ) (found : Option PowerEntry) (e : PowerEntry) (es : List PowerEntry) (o : Option PowerEntry) → is_better most found e ≡ true → Follows most (Some e) es o → Follows most found (e ∷ es) o
taken_on most found e es None better f = absurd (search (rules, f.0))
taken_on most found e es (Some t) better f = (
  inr (⊎_elim (λ same. subst (Contains (e ∷ es)) (search (rules, same)) (first_is_there e es)) (λ c. later_is_there e t es c) f.0),
  better_has_more most found e t.level better f.1,
  f.2,
  ((λ h. f.1), f.3),
)

-- one that is not better changes nothing
passed_by : (most : ℕ) (found : Option PowerEntry) (e : PowerEntry) (es : List PowerEntry) (o : Option PowerEntry) → is_better most found e ≡ false → Follows most found es o → Follows most found (e ∷ es) o
passed_by most None e es None worse f = (refl, (grind arith, f.1))
passed_by most (Some b) e es None worse f = absurd (search (rules, f.0))
passed_by most None e es (Some t) worse f = (
  inr (⊎_elim (λ same. absurd (search (rules, same))) (λ c. later_is_there e t es c) f.0),
  tt,
  f.2,
  ((λ h. grind arith), f.3),
)
passed_by most (Some b) e es (Some t) worse f = (
  ⊎_elim (λ same. inl same) (λ c. inr (later_is_there e t es c)) f.0,
  f.1,
  f.2,
  ((λ h. let up = f.1 in grind arith), f.3),
)

step : (most : ℕ) (found : Option PowerEntry) (e : PowerEntry) (es : List PowerEntry) (better : Bool) → is_better most found e ≡ better → (IsUpTo most (Some e) → Follows most (Some e) es (entry_from most (Some e) es)) → Follows most found es (entry_from most found es) → Follows most found (e ∷ es) (entry_from most (if better then Some e else found) es)
step most found e es true h taken passed = taken_on most found e es _ h (taken (better_is_within most found e h))
step most found e es false h taken passed = passed_by most found e es _ h passed

follows : (most : ℕ) (found : Option PowerEntry) (es : List PowerEntry) → IsUpTo most found → Follows most found es (entry_from most found es)
follows most found [] within = found_alone most found within
follows most found (e ∷ es) within = step most found e es (is_better most found e) refl (λ h. follows most (Some e) es h) (follows most found es within)

all_follows : (most : ℕ) (entries : List PowerEntry) (o : Option PowerEntry) → Follows most None entries o → Takes most entries o
all_follows most entries None f = All-from_recursion _ entries f.1
all_follows most entries (Some t) f = record {
  is_there = ⊎_elim (λ same. absurd (search (rules, same))) (λ c. c) f.0;
  is_within = f.2;
  is_greatest = All-from_recursion _ entries f.3;
}

pub takes : (most : ℕ) (entries : List PowerEntry) → Takes most entries (entry_within most entries)
takes most entries = all_follows most entries _ (follows most None entries tt)

-- ---- the least

-- none was found, or a level that is not below this one
abbrev IsFrom : ℕ → Option ℕ → Type 0
IsFrom least None = Unit {0}
IsFrom least (Some level) = least ≤ level

-- it was found, or an entry has it
abbrev IsFoundOrHas : Option ℕ → List PowerEntry → ℕ → Type 0
IsFoundOrHas found entries level = (found ≡ Some level) ⊎ ((e : PowerEntry) × Contains entries e × (e.level ≡ level))

abbrev Lowers : Option ℕ → List PowerEntry → Option ℕ → Type 0
Lowers found entries None = (found ≡ None) × (entries ≡ [])
Lowers found entries (Some level) = IsFoundOrHas found entries level × IsFrom level found × AllByRecursion (λ e. level ≤ e.level) entries

lowest_alone : (found : Option ℕ) → Lowers found [] found
lowest_alone None = (refl, refl)
lowest_alone (Some level) = (inl refl, (le_refl _), tt)

least_is_its : (found : Option ℕ) (e : PowerEntry) → (found ≡ Some (least_of found e)) ⊎ (e.level ≡ least_of found e)
least_is_its None e = inr refl
least_is_its (Some level) e = grind arith

least_is_from : (found : Option ℕ) (e : PowerEntry) (level : ℕ) → level ≤ least_of found e → IsFrom level found × (level ≤ e.level)
least_is_from None e level h = (tt, h)
least_is_from (Some other) e level h = (grind arith, grind arith)

one_lower : (found : Option ℕ) (e : PowerEntry) (es : List PowerEntry) (o : Option ℕ) → Lowers (Some (least_of found e)) es o → Lowers found (e ∷ es) o
one_lower found e es None l = absurd (search (rules, l.0))
one_lower found e es (Some level) l =
    let both = least_is_from found e level l.1 in (
      ⊎_elim
          (λ same. let at : least_of found e ≡ level = search (rules, same) in ⊎_elim (λ was. inl (was ∙ ap Some at)) (λ its. inr (e, first_is_there e es, its ∙ at)) (least_is_its found e))
          (λ has. inr (has.0, later_is_there e has.0 es has.1, has.2)) l.0,
      both.0,
      (both.1, l.2),
    )

lowers : (found : Option ℕ) (es : List PowerEntry) → Lowers found es (least_from found es)
lowers found [] = lowest_alone found
lowers found (e ∷ es) = one_lower found e es _ (lowers (Some (least_of found e)) es)

all_lowers : (entries : List PowerEntry) (o : Option ℕ) → Lowers None entries o → HasLeast entries o
all_lowers entries None l = l.1
all_lowers entries (Some level) l =
    let its : (e : PowerEntry) × Contains entries e × (e.level ≡ level) = ⊎_elim (λ same. absurd (search (rules, same))) (λ has. has) l.0 in
    record { entry = its.0; is_there = its.1; is_its = its.2; is_least = All-from_recursion _ entries l.2 }

pub has_least : (entries : List PowerEntry) → HasLeast entries (least_level entries)
has_least entries = all_lowers entries _ (lowers None entries)
