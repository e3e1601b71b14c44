-- What is done while other clients come.
use Rattle.std.proofs.Common.{◌≡◌, ℕ, ◌+◌, List, [], ◌∷◌, ◌++◌, map, refl, sym, ap, subst, ◌∙◌, arith}
use Rattle.std.proofs.lemmas.List.{append-nil}
use Rattle.llrp_stream.specs.declared.item.Item.{Item}
use Rattle.llrp_endpoints.specs.declared.script.Entry.{Entry}
use Rattle.llrp_endpoints.specs.Serving.{last_moment}
use Rattle.llrp_general.specs.Calls.Serving.{Setting, Step, IsDone, WithOthers, by_script, connecting, no_more, noted, other_came, planned, steps}
use Rattle.llrp_general.specs.Private.Standing.{last_now}

-- ---- the last moment

pub last-append : (now : ℕ) (a b : List Step) → last_now now (a ++ b) ≡ last_now (last_now now a) b
last-append now [] b = refl
last-append now (step ∷ a) b = last-append step.dated.now a b

pub last-script : (now : ℕ) (es : List Entry) → last_now now (map by_script es) ≡ last_moment now es
last-script now [] = refl
last-script now (e ∷ es) = last-script e.now es

-- ---- a plan with notes

none_more : (n : ℕ) → 0 + n ≡ n
none_more n = omega arith

none_further : (n : ℕ) → n + 0 ≡ n
none_further n = omega arith

one_later : (n m : ℕ) → (n + m) + 1 ≡ (n + 1) + m
one_later n m = omega arith

with-append : (before n m : ℕ) (plan done plan2 done2 : List Step) → WithOthers before n plan done → WithOthers (last_now before done) m plan2 done2 → WithOthers before (n + m) (plan ++ plan2) (done ++ done2)
with-append before n m plan done plan2 done2 (no_more b) h = subst (λ (k : ℕ). WithOthers before k plan2 done2) (sym (none_more m)) h
with-append before n m plan done plan2 done2 (planned b k step p d w) h = planned before (k + m) step (p ++ plan2) (d ++ done2) (with-append step.dated.now k m p d plan2 done2 w h)
with-append before n m plan done plan2 done2 (noted b k p d w) h =
    subst (λ (i : ℕ). WithOthers before i (p ++ plan2) (other_came before ∷ (d ++ done2))) (one_later k m) (noted before (k + m) (p ++ plan2) (d ++ done2) (with-append before k m p d plan2 done2 w h))

with_none : (before : ℕ) (steps : List Step) → WithOthers before 0 steps steps
with_none before [] = no_more before
with_none before (step ∷ steps) = planned before 0 step steps steps (with_none step.dated.now steps)

is_plan : (before others : ℕ) (plan done : List Step) → others ≡ 0 → WithOthers before others plan done → done ≡ plan
is_plan before others plan done e (no_more b) = refl
is_plan before others plan done e (planned b k step p d w) = ap (λ (xs : List Step). step ∷ xs) (is_plan step.dated.now k p d e w)
is_plan before others plan done e (noted b k p d w) = absurd (omega (arith, e))

-- ---- what is done for items

pub is_done_first : (s : Setting) (more : List Step) → steps s [] ≡ connecting ∷ more → IsDone s 0 [] (connecting ∷ more)
is_done_first s more is = record { plan = more; later = more; steps_are = is; done_is = refl; with_others = with_none 0 more }

-- further steps
pub is_done_more : (s : Setting) (others : ℕ) (items items2 : List Item) (done more : List Step) → IsDone s others items done → steps s items2 ≡ steps s items ++ more → IsDone s others items2 (done ++ more)
is_done_more s others items items2 done more h is = record {
  plan = h.plan ++ more;
  later = h.later ++ more;
  steps_are = is ∙ ap (λ (xs : List Step). xs ++ more) h.steps_are;
  done_is = ap (λ (xs : List Step). xs ++ more) h.done_is;
  with_others = subst (λ (n : ℕ). WithOthers 0 n (h.plan ++ more) (h.later ++ more)) (none_further others) (with-append 0 others 0 h.plan h.later more more h.with_others (with_none (last_now 0 h.later) more));
}

-- a further note
pub is_done_other : (s : Setting) (others : ℕ) (items : List Item) (done : List Step) (now : ℕ) → IsDone s others items done → now ≡ last_now 0 done → IsDone s (others + 1) items (done ++ other_came now ∷ [])
is_done_other s others items done now h is =
    let last : ℕ = last_now 0 h.later in
    let at : now ≡ last = is ∙ ap (last_now 0) h.done_is in
    let note : WithOthers last 1 [] (other_came now ∷ []) = subst (λ (n : ℕ). WithOthers last 1 [] (other_came n ∷ [])) (sym at) (noted last 0 [] [] (no_more last)) in
    record {
      plan = h.plan;
      later = h.later ++ other_came now ∷ [];
      steps_are = h.steps_are;
      done_is = ap (λ (xs : List Step). xs ++ other_came now ∷ []) h.done_is;
      with_others = subst (λ (plan : List Step). WithOthers 0 (others + 1) plan (h.later ++ other_came now ∷ [])) (append-nil h.plan) (with-append 0 others 1 h.plan h.later [] (other_came now ∷ []) h.with_others note);
    }

-- where no other client comes
pub nothing_else : (s : Setting) (items : List Item) (done : List Step) → IsDone s 0 items done → done ≡ steps s items
nothing_else s items done h = h.done_is ∙ ap (λ (xs : List Step). connecting ∷ xs) (is_plan 0 0 h.plan h.later refl h.with_others) ∙ sym h.steps_are
