-- When a client ends as done, and the lines that it prints.
use Rattle.std.proofs.Common.{◌≡◌, ◌∙◌, ℕ, zero, suc, List, [], ◌∷◌, ◌++◌, Bool, true, false, if◌then◌else◌, ◌&&◌, ◌||◌, not, Option, Some, None, refl, sym, ap, subst, rules, drop, length, slice_index_or, append_assoc, arith, ◌+◌, ◌<◌, inl, inr, Ok, Err}
use Rattle.std.specs.Borrow.{Bor}
use Rattle.std.proofs.Math.Seq.{drop-cons}
use Rattle.std.specs.List.{list_any}
use Rattle.std.specs.Str.{bytes_eq}
use Rattle.std.proofs.lemmas.Slice.Eq.{bytes_eq-Decides}
use Rattle.llrp_tree.specs.Tree.{MessageTree, Tree}
use Rattle.llrp_tree.specs.declared.node.Node.{Node}
use Rattle.llrp_listing.specs.declared.outcome.ToolErr.{ToolErr}
use Rattle.llrp_operations.specs.declared.access.Ending.{Ending}
use Rattle.llrp_operations.specs.declared.access.Ending.TheVariants as ending
use Rattle.llrp_operations.specs.declared.access.Errand.{Errand}
use Rattle.llrp_operations.specs.declared.course.Outcome.{Outcome}
use Rattle.llrp_operations.specs.declared.course.Outcome.TheVariants.{Reported, Refused, RefusedTargets, Several, NoEpc, NoTag, Unknown, Broken}
use Rattle.llrp_operations.specs.declared.operation.Operation.{Operation}
use Rattle.llrp_operations.specs.declared.talk.Talked.{Talked}
use Rattle.llrp_operations.specs.Calls.Access.{DoneIsDoneToIt, IsAllDone, IsMeant, SaysWhenDone, ending_for, ending_of, IsShown, epc_of, is_known, judged, line_of, lines_of, meant_in, results_of, tag_in, tag_of, undone}
use Rattle.llrp_operations.specs.Calls.TagNames.{IsTagName}
use Rattle.std.specs.Prelude.{IfOk, Result}
use Rattle.llrp_operations.specs.Calls.Changes.{IsHeadAt, changes, is_done, is_meant, is_verified}
use Rattle.llrp_operations.specs.Calls.Lines.{referred}
use Rattle.llrp_operations.specs.Calls.Results.{has_succeeded}
use Rattle.llrp_operations.proofs.ResultLemmas.{says_what_succeeds}

-- ---- done

both : (a b : Bool) → (a && b) ≡ true → (a ≡ true) × (b ≡ true)
both true b h = (refl, h)
both false b h = absurd (search (rules, h))

and_true : (a b : Bool) → a ≡ true → b ≡ true → (a && b) ≡ true
and_true true b e f = f
and_true false b e f = absurd (search (rules, e))

-- where it verifies
implied : (verifies is : Bool) → (not verifies || is) ≡ true → verifies ≡ true → is ≡ true
implied true is h e = h
implied false is h e = absurd (search (rules, e))

implies : (verifies is : Bool) → (verifies ≡ true → is ≡ true) → (not verifies || is) ≡ true
implies true is h = h refl
implies false is h = refl

-- ---- the tag that is meant

apart : (b : Bool) → b ≡ false → b ≡ true → ⊥
apart true f t = search (rules, f)
apart false f t = search (rules, t)

meant_so : (meant given epc : List ℕ) → is_meant meant given epc ≡ true → IsMeant meant given epc
meant_so meant given epc h = go (bytes_eq meant []) (bytes_eq epc meant) refl refl h
  where
    given_so : (not (bytes_eq given []) && bytes_eq epc given) ≡ true → (given ≡ [] → ⊥) × (epc ≡ given)
    given_so h =
        let two = both (not (bytes_eq given [])) (bytes_eq epc given) h in
        (λ e. absurd (apart (not (bytes_eq given [])) (ap not ((bytes_eq-Decides given []).1 e)) two.0), (bytes_eq-Decides epc given).0 two.1)

    go : (a b : Bool) → bytes_eq meant [] ≡ a → bytes_eq epc meant ≡ b → (a || b || (not (bytes_eq given []) && bytes_eq epc given)) ≡ true → IsMeant meant given epc
    go true b p q h = inl ((bytes_eq-Decides meant []).0 p)
    go false true p q h = inr (inl ((bytes_eq-Decides epc meant).0 q))
    go false false p q h = inr (inr (given_so h))

unlike : (given : List ℕ) → (given ≡ [] → ⊥) → bytes_eq given [] ≡ false
unlike given some = go (bytes_eq given []) refl
  where
    go : (b : Bool) → bytes_eq given [] ≡ b → b ≡ false
    go true p = absurd (some ((bytes_eq-Decides given []).0 p))
    go false p = refl

or_true : (a c : Bool) → (a || true || c) ≡ true
or_true true c = refl
or_true false c = refl

so_meant : (meant given epc : List ℕ) → IsMeant meant given epc → is_meant meant given epc ≡ true
so_meant meant given epc (inl e) = rw ((bytes_eq-Decides meant []).1 e) refl
so_meant meant given epc (inr (inl e)) = rw ((bytes_eq-Decides epc meant).1 e) (or_true (bytes_eq meant []) (not (bytes_eq given []) && bytes_eq epc given))
so_meant meant given epc (inr (inr (some, e))) = rw (unlike given some, (bytes_eq-Decides epc given).1 e) (go (bytes_eq meant []) (bytes_eq epc meant))
  where
    go : (a b : Bool) → (a || b || true) ≡ true
    go true b = refl
    go false true = refl
    go false false = refl

-- ---- the ending

never_undone : (e : Errand) (meant : List ℕ) (t : Tree) → undone e meant t ≡ ending.Done → ⊥
never_undone e meant t h = go (list_any changes e.request.operations.now && not (is_known e meant t)) h
  where
    go : (b : Bool) → (if b then ending.Unknown else ending.Undone) ≡ ending.Done → ⊥
    go true h = cc
    go false h = cc

chosen : (b : Bool) (x : Ending) → (x ≡ ending.Done → ⊥) → (if b then ending.Done else x) ≡ ending.Done → b ≡ true
chosen true x other h = refl
chosen false x other h = absurd (other h)

all_done : (e : Errand) (meant : List ℕ) (t : Tree) → is_done e.verifies e.request.id e.asked.now e.request.operations.now meant e.given.now t ≡ true → IsAllDone e meant t
all_done e meant t h =
    let first = both (is_meant meant e.given.now (epc_of t)) (has_succeeded e.request.id e.request.operations.now t && (not e.verifies || is_verified e.asked.now t)) h in
    let two = both (has_succeeded e.request.id e.request.operations.now t) (not e.verifies || is_verified e.asked.now t) first.1 in
    record {
      own = meant_so meant e.given.now (epc_of t) first.0;
      succeeds = says_what_succeeds.sound e.request.id e.request.operations.now t two.0;
      verified = implied e.verifies (is_verified e.asked.now t) two.1;
    }

done_all : (e : Errand) (meant : List ℕ) (t : Tree) → IsAllDone e meant t → is_done e.verifies e.request.id e.asked.now e.request.operations.now meant e.given.now t ≡ true
done_all e meant t d =
    and_true (is_meant meant e.given.now (epc_of t)) (has_succeeded e.request.id e.request.operations.now t && (not e.verifies || is_verified e.asked.now t))
    (so_meant meant e.given.now (epc_of t) d.own)
    (and_true (has_succeeded e.request.id e.request.operations.now t) (not e.verifies || is_verified e.asked.now t)
    (says_what_succeeds.complete e.request.id e.request.operations.now t d.succeeds) (implies e.verifies (is_verified e.asked.now t) d.verified))

never_done : (o : Outcome) (cause : ToolErr) → ending_of o cause ≡ ending.Done → ⊥
never_done Reported cause h = cc
never_done (Refused status) cause h = cc
never_done (RefusedTargets status) cause h = cc
never_done Several cause h = cc
never_done NoEpc cause h = cc
never_done NoTag cause h = cc
never_done Unknown cause h = cc
never_done Broken cause h = cc

when_done : (e : Errand) (talked : Talked) (tag : Option Tree) → ending_for e talked tag ≡ ending.Done → (t : Tree) × (tag ≡ Some t) × IsAllDone e (meant_in e talked) t
when_done e talked None h = absurd (never_done talked.outcome talked.cause h)
when_done e talked (Some t) h =
    let meant = meant_in e talked in
    (t, refl, all_done e meant t (chosen (is_done e.verifies e.request.id e.asked.now e.request.operations.now meant e.given.now t) (undone e meant t) (never_undone e meant t) h))

is_judged : (e : Errand) (meant : List ℕ) (t : Tree) → IsAllDone e meant t → judged e meant t ≡ ending.Done
is_judged e meant t d = ap (λ (b : Bool). if b then ending.Done else undone e meant t) (done_all e meant t d)

pub says_when_done : SaysWhenDone
says_when_done e talked tag = (when_done e talked tag, λ t is d. subst (λ (o : Option Tree). ending_for e talked o ≡ ending.Done) (sym is) (is_judged e (meant_in e talked) t d))

came : (id : ℕ) (m : Option MessageTree) (t : Tree) → tag_of id m ≡ Some t → (report : MessageTree) × (m ≡ Some report) × (tag_in id report ≡ Some t)
came id None t h = cc
came id (Some report) t h = (report, refl, h)

pub done_is_done_to_it : DoneIsDoneToIt
done_is_done_to_it e r0 r1 w0 w1 p0 p1 a =
    let so = when_done e a.talked (tag_of e.request.id a.talked.report) (sym a.ending_is) in
    let m = came e.request.id a.talked.report so.0 so.1 in
    record { report = m.0; came = m.1; tag = so.0; first = m.2; done = so.2 }

-- ---- lines

drop_past : (i : ℕ) (ts : List Tree) → drop i ts ≡ [] → drop (suc i) ts ≡ []
drop_past zero [] h = refl
drop_past zero (t ∷ ts) h = absurd (search (rules, h))
drop_past (suc i) [] h = refl
drop_past (suc i) (t ∷ ts) h = drop_past i ts h

-- the line of the next operation, and those of the others
pub next_line : (json : Bool) (name : List ℕ) (o : Operation) (os : List Operation) (i : ℕ) (ts : List Tree) (said : Option (Bor Node)) → IsHeadAt i ts said
    → lines_of json name (o ∷ os) (drop i ts) ≡ line_of json name o (referred said) ++ lines_of json name os (drop (suc i) ts)
next_line json name o os i ts None h = ap (lines_of json name (o ∷ os)) h ∙ ap (λ (x : List Tree). line_of json name o None ++ lines_of json name os x) (sym (drop_past i ts h))
next_line json name o os i ts (Some t) h = ap (lines_of json name (o ∷ os)) h

-- the lines so far with one more, and those of what is left then
pub one_more_line : (json : Bool) (name : List ℕ) (os : List Operation) (ts : List Tree) (i : ℕ) (o : Operation) (said : Option (Bor Node)) (lines new : List ℕ) (all : List ℕ) → i < length os → o ≡ slice_index_or os i o → IsHeadAt i ts said
    → new ≡ lines ++ line_of json name o (referred said) → lines ++ lines_of json name (drop i os) (drop i ts) ≡ all → new ++ lines_of json name (drop (i + 1) os) (drop (i + 1) ts) ≡ all
one_more_line json name os ts i o said lines new all within is head grown so =
    let next : drop i os ≡ o ∷ drop (suc i) os = drop-cons os i o within ∙ ap (λ (x : Operation). x ∷ drop (suc i) os) (sym is) in
    let more : suc i ≡ i + 1 = omega arith in
    let line = line_of json name o (referred said) in
    let rest = lines_of json name (drop (suc i) os) (drop (suc i) ts) in
    let parts : lines_of json name (drop i os) (drop i ts) ≡ line ++ rest = ap (λ (x : List Operation). lines_of json name x (drop i ts)) next ∙ next_line json name o (drop (suc i) os) i ts said head in
    ap (λ (n : ℕ). new ++ lines_of json name (drop n os) (drop n ts)) (sym more) ∙ ap (λ (x : List ℕ). x ++ rest) grown ∙ append_assoc lines line rest ∙ ap (λ (x : List ℕ). lines ++ x) (sym parts) ∙ so

-- the lines of a tag with this name
pub shown_so : {X E : Type 0} → (f : X → List ℕ) (e : Errand) (tag : Tree) (epc name : List ℕ) (r : Result X E) → epc ≡ epc_of tag → IsTagName epc name
    → IfOk r (λ lines. f lines ≡ lines_of e.json name e.request.operations.now (results_of tag)) → IfOk r (λ lines. IsShown e tag (f lines))
shown_so f e tag epc name (Ok lines) is named so = (name, subst (λ (x : List ℕ). IsTagName x name) is named, so)
shown_so f e tag epc name (Err error) is named so = tt
