-- The next line of a schedule.
use Rattle.std.proofs.Common.{◌≡◌, ℕ, zero, suc, ◌+◌, ◌<◌, ◌≤◌, ◌==◌, min, Bool, true, false, List, [], ◌∷◌, ◌++◌, length, take, drop, get_or, Option, Some, None, ◌⊎◌, inl, inr, refl, sym, ap, subst, ◌∙◌, arith, if◌then◌else◌}
use Rattle.std.proofs.lemmas.Bool.Decides.{nat_tests}
use Rattle.std.proofs.lemmas.List.{take-append-drop, length-take-le}
use Rattle.std.proofs.Math.Seq.{drop-cons, set-append_seam}
use Rattle.std.proofs.Math.ListN.{set}
use Rattle.std.proofs.lemmas.Option.{none-some}
use Rattle.llrp_live.specs.declared.moments.Stage.{Stage}
use Rattle.llrp_live.specs.declared.lines.Line.{Line}
use Rattle.llrp_live.specs.Calls.Moments.{moment_of}
use Rattle.llrp_live.specs.Private.Schedules.{with_at}
use Rattle.llrp_session.specs.Calls.Due.{sooner}
use Rattle.llrp_live.specs.Calls.Schedules.{next_moment, is_at, happens_at, before_first, again_of, listed, TakesDue}

-- ---- the line with the next moment

pick : (a b m : ℕ) (t : Bool) → (a == m) ≡ t → min a b ≡ m → ((a == m) ≡ true) ⊎ (b ≡ m)
pick a b m true e h = inl e
pick a b m false e h = inr (grind (arith, nat_tests))

one_moment : (a b : ℕ) → Some a ≡ Some b → a ≡ b
one_moment a b h = cc

-- of two moments the sooner is one
sooner_one : (a b : Option ℕ) (m : ℕ) → sooner a b ≡ Some m → (is_at a m ≡ true) ⊎ (b ≡ Some m)
sooner_one None b m h = inr h
sooner_one (Some a) None m h = let e : a ≡ m = one_moment a m h in inl (grind (arith, nat_tests))
sooner_one (Some a) (Some b) m h = choose (pick a b m (a == m) refl (one_moment (min a b) m h))
  where
    choose : ((a == m) ≡ true) ⊎ (b ≡ m) → (is_at (Some a) m ≡ true) ⊎ (Some b ≡ Some m)
    choose (inl e) = inl e
    choose (inr e) = inr (ap Some e)

below_true : (t : Bool) (k n : ℕ) → t ≡ true → (if t then 0 else k + 1) < suc n
below_true t k n e = rw e (omega arith)

below_more : (t : Bool) (k n : ℕ) → k < n → (if t then 0 else k + 1) < suc n
below_more true k n h = omega arith
below_more false k n h = omega (arith, h)

below_one : (t : Bool) (k n : ℕ) (P : Type 0) → (t ≡ true) ⊎ P → (P → k < n) → (if t then 0 else k + 1) < suc n
below_one t k n P (inl e) go = below_true t k n e
below_one t k n P (inr h) go = below_more t k n (go h)

-- some line happens at the next moment
pub place_below : (s : Stage) (m : ℕ) (lines : List Line) → next_moment s lines ≡ Some m → before_first s m lines < length lines
place_below s m [] h = absurd (none-some m h)
place_below s m (line ∷ lines) h =
    below_one (happens_at s m line) (before_first s m lines) (length lines) (next_moment s lines ≡ Some m) (sooner_one (moment_of s line.when) (next_moment s lines) m h) (λ e. place_below s m lines e)

-- ---- it is taken out, or put off

-- its place is within the list, also where the next moment was found by itself
pub within : (s : Stage) (m place : ℕ) (lines : List Line) (next : Option ℕ) → next ≡ next_moment s lines → next ≡ Some m → place ≡ before_first s m lines → place < length lines
within s m place lines next is some at = subst (λ (x : ℕ). x < length lines) (sym at) (place_below s m lines (sym is ∙ some))

-- a list in three parts
pub three : (lines : List Line) (i : ℕ) (d : Line) → i < length lines → lines ≡ take i lines ++ get_or lines i d ∷ drop (suc i) lines
three lines i d lt = sym (take-append-drop i lines) ∙ ap (λ (x : List Line). take i lines ++ x) (drop-cons lines i d lt)

set_at : (lines : List Line) (i : ℕ) (d x : Line) → i < length lines → set lines i x ≡ take i lines ++ x ∷ drop (suc i) lines
set_at lines i d x lt =
    let e : length (take i lines) ≡ i = length-take-le i lines (omega (arith, lt)) in
    ap (λ (y : List Line). set y i x) (three lines i d lt) ∙ ap (λ (n : ℕ). set (take i lines ++ get_or lines i d ∷ drop (suc i) lines) n x) (sym e)
    ∙ set-append_seam (take i lines) (get_or lines i d) (drop (suc i) lines) x

left_at : (old : List Line) (place : ℕ) (d : Line) (again : Option Line) → place < length old → with_at old place again ≡ take place old ++ (listed again ++ drop (suc place) old)
left_at old place d None lt = refl
left_at old place d (Some later) lt = set_at old place d later lt

same_at : (lines : List Line) (i : ℕ) (a b : Line) → i < length lines → get_or lines i a ≡ get_or lines i b
same_at [] i a b lt = absurd (omega (arith, lt))
same_at (line ∷ lines) zero a b lt = refl
same_at (line ∷ lines) (suc i) a b lt = same_at lines i a b (omega (arith, lt))

-- what two reads of one place give is one line
pub one_line_at : (lines : List Line) (i : ℕ) (a b : Line) → i < length lines → a ≡ get_or lines i a → b ≡ get_or lines i b → a ≡ b
one_line_at lines i a b lt x y = x ∙ same_at lines i a b lt ∙ sym y

pub taken_due : (now : ℕ) (s : Stage) (old new : List Line) (m place : ℕ) (line : Line) → next_moment s old ≡ Some m → m ≤ now → place ≡ before_first s m old → line ≡ get_or old place line
    → new ≡ with_at old place (again_of line) → TakesDue now s old new line
taken_due now s old new m place line next come is line_is left =
    let lt : place < length old = subst (λ (x : ℕ). x < length old) (sym is) (place_below s m old next) in
    record {
      before = take place old;
      after = drop (suc place) old;
      moment = m;
      next = next;
      has_come = come;
      first = length-take-le place old (omega (arith, lt)) ∙ is;
      parts = three old place line lt ∙ ap (λ (x : Line). take place old ++ x ∷ drop (suc place) old) (sym line_is);
      left = left ∙ left_at old place line (again_of line) lt;
    }
