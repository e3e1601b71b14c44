-- Results that say that their operations were done.
use Rattle.std.proofs.Common.{◌≡◌, ◌∙◌, ℕ, zero, suc, List, [], ◌∷◌, Bool, true, false, if◌then◌else◌, ◌&&◌, ◌+◌, ◌≤◌, drop, length, nat_eq, refl, sym, subst, rules, filter, arith}
use Rattle.std.proofs.lemmas.Bool.{eqb-true}
use Rattle.std.proofs.lemmas.List.{at_drop_all}
use Rattle.llrp_tree.specs.Tree.{Tree, trees}
use Rattle.llrp_operations.specs.declared.operation.Operation.{Operation}
use Rattle.llrp_operations.specs.Calls.Results.{are_of, field_at, is_none_left, is_parameter, is_result, is_whole, result_kind, say_clearly, say_done, says_done}
use Rattle.llrp_operations.specs.Calls.Laws.{AreDone, IsDone, SaysWhatSucceeds}

-- ---- one result

both : (a b : Bool) → (a && b) ≡ true → (a ≡ true) × (b ≡ true)
both true b h = (refl, h)
both false b h = absurd (search (rules, h))

is_done : (id : ℕ) (o : Operation) (t : Tree) → says_done id o t ≡ true → IsDone id o t
is_done id o t h =
    let outer = both (is_parameter (result_kind o) t && nat_eq (field_at 1 t) id) (nat_eq (field_at 0 t) 0 && is_whole o t) h in
    let named = both (is_parameter (result_kind o) t) (nat_eq (field_at 1 t) id) outer.0 in
    let said = both (nat_eq (field_at 0 t) 0) (is_whole o t) outer.1 in
    record { kind = named.0; success = eqb-true (field_at 0 t) 0 said.0; own = eqb-true (field_at 1 t) id named.1; whole = said.1 }

done_is_said : (id : ℕ) (o : Operation) (t : Tree) → IsDone id o t → says_done id o t ≡ true
done_is_said id o t d = let kind = d.kind in let success = d.success in let own = d.own in let whole = d.whole in grind arith

-- ---- all results

none_done : (id : ℕ) (os : List Operation) → is_none_left os ≡ true → AreDone id os []
none_done id [] h = tt
none_done id (o ∷ os) h = absurd (search (rules, h))

-- what is said of a parameter that is a result or not, and of those after it
abbrev pub kept : Bool → Tree → List Tree → List Tree
kept true t ts = t ∷ ts
kept false t ts = ts

abbrev said : Bool → ℕ → List Operation → Tree → List Tree → Bool
said true id [] t ts = false
said true id (o ∷ os) t ts = says_done id o t && say_done (suc id) os ts
said false id os t ts = say_done id os ts

step : (id : ℕ) (os : List Operation) (t : Tree) (ts : List Tree) (b : Bool)
    → ((id : ℕ) (os : List Operation) → say_done id os ts ≡ true → AreDone id os (filter is_result ts)) → said b id os t ts ≡ true → AreDone id os (kept b t (filter is_result ts))
step id [] t ts true later h = absurd (search (rules, h))
step id (o ∷ os) t ts true later h =
    let two = both (says_done id o t) (say_done (suc id) os ts) h in
    (is_done id o t two.0, later (suc id) os two.1)
step id os t ts false later h = later id os h

said_none : (b : Bool) (id : ℕ) (t : Tree) (ts : List Tree) → (if b then false else say_done id [] ts) ≡ said b id [] t ts
said_none true id t ts = refl
said_none false id t ts = refl

said_some : (b : Bool) (id : ℕ) (o : Operation) (os : List Operation) (t : Tree) (ts : List Tree) → (if b then (says_done id o t && say_done (suc id) os ts) else say_done id (o ∷ os) ts) ≡ said b id (o ∷ os) t ts
said_some true id o os t ts = refl
said_some false id o os t ts = refl

kept_by : (b : Bool) (t : Tree) (ts : List Tree) → (if b then (t ∷ ts) else ts) ≡ kept b t ts
kept_by true t ts = refl
kept_by false t ts = refl

said_is : (id : ℕ) (os : List Operation) (t : Tree) (ts : List Tree) → say_done id os (t ∷ ts) ≡ said (is_result t) id os t ts
said_is id [] t ts = said_none (is_result t) id t ts
said_is id (o ∷ os) t ts = said_some (is_result t) id o os t ts

pub kept_is : (t : Tree) (ts : List Tree) → filter is_result (t ∷ ts) ≡ kept (is_result t) t (filter is_result ts)
kept_is t ts = kept_by (is_result t) t (filter is_result ts)

sound : (id : ℕ) (os : List Operation) (ts : List Tree) → say_done id os ts ≡ true → AreDone id os (filter is_result ts)
sound id os [] h = none_done id os h
sound id os (t ∷ ts) h =
    subst (λ (x : List Tree). AreDone id os x) (sym (kept_is t ts))
    (step id os t ts (is_result t) (λ i more said. sound i more ts said) (sym (said_is id os t ts) ∙ h))

-- ---- the other way

none_left : (id : ℕ) (os : List Operation) → AreDone id os [] → is_none_left os ≡ true
none_left id [] d = refl
none_left id (o ∷ os) d = absurd d

and_true : (a b : Bool) → a ≡ true → b ≡ true → (a && b) ≡ true
and_true true b p q = q
and_true false b p q = p

step_back : (id : ℕ) (os : List Operation) (t : Tree) (ts : List Tree) (b : Bool)
    → ((id : ℕ) (os : List Operation) → AreDone id os (filter is_result ts) → say_done id os ts ≡ true) → AreDone id os (kept b t (filter is_result ts)) → said b id os t ts ≡ true
step_back id [] t ts true later d = absurd d
step_back id (o ∷ os) t ts true later d = and_true (says_done id o t) (say_done (suc id) os ts) (done_is_said id o t d.0) (later (suc id) os d.1)
step_back id os t ts false later d = later id os d

complete : (id : ℕ) (os : List Operation) (ts : List Tree) → AreDone id os (filter is_result ts) → say_done id os ts ≡ true
complete id os [] d = none_left id os d
complete id os (t ∷ ts) d =
    said_is id os t ts
    ∙ step_back id os t ts (is_result t) (λ i more done. complete i more ts done) (subst (λ (x : List Tree). AreDone id os x) (kept_is t ts) d)

-- ---- where all parameters were looked at

some_left : (n : ℕ) → false ≡ nat_eq 0 (suc n)
some_left n = grind arith

one_less : (k n : ℕ) → nat_eq k n ≡ nat_eq (suc k) (suc n)
one_less k n = grind arith

left_is : (os : List Operation) (done : ℕ) → done ≤ length os → is_none_left (drop done os) ≡ nat_eq done (length os)
left_is [] zero h = refl
left_is [] (suc k) h = absurd (omega (arith, h))
left_is (o ∷ os) zero h = some_left (length os)
left_is (o ∷ os) (suc k) h = left_is os k (omega (arith, h)) ∙ one_less k (length os)

pub at_end : (os : List Operation) (ts : List Tree) (done i : ℕ) → length ts ≤ i → done ≤ length os → say_done 1 os ts ≡ say_done (done + 1) (drop done os) (drop i ts) → nat_eq done (length os) ≡ say_done 1 os ts
at_end os ts done i past within h = sym (h ∙ at_drop_all (λ (x : List Tree). say_done (done + 1) (drop done os) x) ts i past ∙ left_is os done within)

pub clear_at_end : (os : List Operation) (ts : List Tree) (done i : ℕ) → length ts ≤ i → done ≤ length os → say_clearly 1 os ts ≡ say_clearly (done + 1) (drop done os) (drop i ts) → nat_eq done (length os) ≡ say_clearly 1 os ts
clear_at_end os ts done i past within h = sym (h ∙ at_drop_all (λ (x : List Tree). say_clearly (done + 1) (drop done os) x) ts i past ∙ left_is os done within)

-- ---- the law

pub says_what_succeeds : SaysWhatSucceeds
says_what_succeeds = record {
  sound = λ id os tag h.
      let two = both (are_of id (trees tag.children)) (say_done 1 os (trees tag.children)) h in
      record { own = two.0; results = sound 1 os (trees tag.children) two.1 };
  complete = λ id os tag s. and_true (are_of id (trees tag.children)) (say_done 1 os (trees tag.children)) s.own (complete 1 os (trees tag.children) s.results);
}
