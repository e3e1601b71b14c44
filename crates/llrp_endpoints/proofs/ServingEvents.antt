-- The events that one more item makes, and the entries that are due.
use Rattle.std.proofs.Common.{◌≡◌, ℕ, ◌+◌, ◌<◌, ◌≤◌, ◌==◌, nat_le, min, Bool, true, false, List, [], ◌∷◌, ◌++◌, length, map, drop, get_or, refl, sym, ap, subst, ◌∙◌, append_assoc, arith}
use Rattle.std.specs.List.{filter, AllByRecursion}
use Rattle.std.specs.List.Sorted.{IsNonDecreasingBy}
use Rattle.std.proofs.lemmas.Bool.Decides.{nat_tests}
use Rattle.std.proofs.lemmas.List.{append-nil, length-append}
use Rattle.std.proofs.lemmas.List.Elements.{filter-append, recursion_from_All}
use Rattle.std.proofs.lemmas.List.Sorted.{IsNonDecreasingBy-drop}
use Rattle.llrp_stream.specs.declared.item.Item.{Item}
use Rattle.llrp_session.specs.ReaderMachine.{Connect}
use Rattle.llrp_endpoints.specs.declared.script.Entry.{Entry}
use Rattle.llrp_endpoints.specs.declared.serving.scripted.ScriptedReader.{ScriptedReader}
use Rattle.llrp_endpoints.specs.Calls.Script.{IsInRange}
use Rattle.llrp_endpoints.specs.Serving.{Happening, happening, taking, entries_at, moment_after, last_moment, events_from, events, closing_events}
use Rattle.llrp_endpoints.specs.Calls.ServingStands.{HasDone}
use Rattle.llrp_endpoints.specs.TagLines.{greatest_count}
use Rattle.llrp_endpoints.proofs.ActingLemmas.{last_moment-append}

-- ---- elements

all_by : (P Q R : Entry → Type 0) → ((e : Entry) → P e → Q e → R e) → (es : List Entry) → AllByRecursion P es → AllByRecursion Q es → AllByRecursion R es
all_by P Q R f [] p q = tt
all_by P Q R f (e ∷ es) p q = (f e p.0 q.0, all_by P Q R f es p.1 q.1)

all_front : (P : Entry → Type 0) (a b : List Entry) → AllByRecursion P (a ++ b) → AllByRecursion P a
all_front P [] b h = tt
all_front P (e ∷ a) b h = (h.0, all_front P a b h.1)

all_back : (P : Entry → Type 0) (a b : List Entry) → AllByRecursion P (a ++ b) → AllByRecursion P b
all_back P [] b h = h
all_back P (e ∷ a) b h = all_back P a b h.1

all_both : (P : Entry → Type 0) (a b : List Entry) → AllByRecursion P a → AllByRecursion P b → AllByRecursion P (a ++ b)
all_both P [] b h k = k
all_both P (e ∷ a) b h k = (h.0, all_both P a b h.1 k)

filter_none : (p : Entry → Bool) (es : List Entry) → AllByRecursion (λ e. p e ≡ false) es → filter p es ≡ []
filter_none p [] h = refl
filter_none p (e ∷ es) h = rw h.0 (filter_none p es h.1)

filter_all : (p : Entry → Bool) (es : List Entry) → AllByRecursion (λ e. p e ≡ true) es → filter p es ≡ es
filter_all p [] h = refl
filter_all p (e ∷ es) h = rw h.0 (ap (λ (xs : List Entry). e ∷ xs) (filter_all p es h.1))

drop_front : (a b : List Entry) → drop (length a) (a ++ b) ≡ b
drop_front [] b = refl
drop_front (e ∷ a) b = drop_front a b

-- ---- one more item

events_from-snoc : (count : ℕ) (entries : List Entry) (items : List Item) (item : Item) → events_from count entries (items ++ item ∷ [])
    ≡ events_from count entries items ++ (record { now = moment_after (count + length items) entries; event = taking item } ∷ map happening (entries_at (count + length items + 1) entries))
events_from-snoc count entries [] item =
    let e : count + 0 ≡ count = omega arith in
    rw (e, append-nil (map happening (entries_at (count + 1) entries))) refl
events_from-snoc count entries (first ∷ items) item =
    let e : count + 1 + length items ≡ count + length (first ∷ items) = omega arith in
    let h : Happening = record { now = moment_after count entries; event = taking first } in
    let done : List Happening = map happening (entries_at (count + 1) entries) in
    let last : ℕ → List Happening = λ (n : ℕ). record { now = moment_after n entries; event = taking item } ∷ map happening (entries_at (n + 1) entries) in
    ap (λ (hs : List Happening). h ∷ (done ++ hs)) (events_from-snoc (count + 1) entries items item ∙ ap (λ (n : ℕ). events_from (count + 1) entries items ++ last n) e)
    ∙ ap (λ (hs : List Happening). h ∷ hs) (sym (append_assoc done (events_from (count + 1) entries items) (last (count + length (first ∷ items)))))

zero_more : (n : ℕ) → 0 + n ≡ n
zero_more n = omega arith

pub events-snoc : (entries : List Entry) (items : List Item) (item : Item) → events entries (items ++ item ∷ []) ≡ closing_events entries items item ++ map happening (entries_at (length items + 1) entries)
unfolding events closing_events
events-snoc entries items item =
    let first : List Happening = map happening (entries_at 0 entries) in
    let taken : Happening = record { now = moment_after (length items) entries; event = taking item } in
    let due : List Happening = map happening (entries_at (length items + 1) entries) in
    let last : ℕ → List Happening = λ (n : ℕ). record { now = moment_after n entries; event = taking item } ∷ map happening (entries_at (n + 1) entries) in
    let step : events_from 0 entries (items ++ item ∷ []) ≡ events_from 0 entries items ++ (taken ∷ due) =
    events_from-snoc 0 entries items item ∙ ap (λ (n : ℕ). events_from 0 entries items ++ last n) (zero_more (length items)) in
    ap (λ (hs : List Happening). record { now = 0; event = Connect } ∷ (first ++ hs)) step
    ∙ ap (λ (hs : List Happening). record { now = 0; event = Connect } ∷ hs)
    (sym (append_assoc first (events_from 0 entries items) (taken ∷ due)) ∙ sym (append_assoc (first ++ events_from 0 entries items) (taken ∷ []) due))

pub events-none : (entries : List Entry) → events entries [] ≡ (record { now = 0; event = Connect } ∷ []) ++ map happening (entries_at 0 entries)
unfolding events
events-none entries = ap (λ (hs : List Happening). record { now = 0; event = Connect } ∷ hs) (append-nil (map happening (entries_at 0 entries)))

-- ---- the moment of the next item

pub moment_of_done : (count : ℕ) (entries : List Entry) (s : ScriptedReader) → HasDone (count + 1) entries s → s.moment ≡ moment_after count entries
moment_of_done count entries s h =
    let p : Entry → Bool = λ e. nat_le e.after count in
    let yes : filter p h.done ≡ h.done = filter_all p h.done (all_by (λ e. e.after < count + 1) (λ e. e.after < count + 1) (λ e. p e ≡ true) (λ (e : Entry) (a : e.after < count + 1) (b : e.after < count + 1). grind (arith, nat_tests)) h.done h.done_are h.done_are) in
    let no : filter p h.left ≡ [] = filter_none p h.left (all_by (λ e. count + 1 ≤ e.after) (λ e. count + 1 ≤ e.after) (λ e. p e ≡ false) (λ (e : Entry) (a : count + 1 ≤ e.after) (b : count + 1 ≤ e.after). grind (arith, nat_tests)) h.left h.left_are h.left_are) in
    let all : filter p entries ≡ h.done = ap (filter p) h.whole ∙ filter-append p h.done h.left ∙ ap (λ (es : List Entry). es ++ filter p h.left) yes ∙ ap (λ (es : List Entry). h.done ++ es) no ∙ append-nil h.done in
    h.moment_is ∙ ap (last_moment 0) (sym all)

-- ---- the entries that are due

later_above : (t : ℕ) (later : List Entry) → IsNonDecreasingBy (λ e. e.after) later → ((e : Entry) (es : List Entry) → later ≡ e ∷ es → t < e.after) → AllByRecursion (λ e. t < e.after) later
later_above t [] sorted first = tt
later_above t (e ∷ es) sorted first =
    let above : t < e.after = first e es refl in
    recursion_from_All (λ (x : Entry). t < x.after) (e ∷ es) (λ (k : ℕ) (d : Entry) (within : k < length (e ∷ es)). let rises : e.after ≤ (get_or (e ∷ es) k d).after = sorted 0 k d (omega arith) within in omega arith)

-- What is due after this many items.
pub record DueNow (count : ℕ) (entries : List Entry) (s : ScriptedReader) (due later : List Entry) : Type 0 where
  pub due_are : entries_at count entries ≡ due
  pub below : AllByRecursion (λ e. e.after < count + 1) due
  pub above : AllByRecursion (λ e. count + 1 ≤ e.after) later

pub due_now : (count : ℕ) (entries : List Entry) (s : ScriptedReader) (h : HasDone count entries s) (due later : List Entry) → h.left ≡ due ++ later
    → AllByRecursion (λ e. e.after ≤ min count greatest_count) due → ((e : Entry) (es : List Entry) → later ≡ e ∷ es → min count greatest_count < e.after) → DueNow count entries s due later
due_now count entries s h due later cut most least =
    let left_whole : entries ≡ h.done ++ (due ++ later) = h.whole ∙ ap (λ (es : List Entry). h.done ++ es) cut in
    let left_are : AllByRecursion (λ e. count ≤ e.after) (due ++ later) = subst (λ (es : List Entry). AllByRecursion (λ e. count ≤ e.after) es) cut h.left_are in
    let ranged : AllByRecursion IsInRange (h.done ++ (due ++ later)) = subst (λ (es : List Entry). AllByRecursion IsInRange es) left_whole (recursion_from_All IsInRange entries h.lawful.in_range) in
    let later_ranged : AllByRecursion IsInRange later = all_back IsInRange due later (all_back IsInRange h.done (due ++ later) ranged) in
    let parts : (h.done ++ due) ++ later ≡ entries = append_assoc h.done due later ∙ sym left_whole in
    let sorted : IsNonDecreasingBy (λ e. e.after) later =
    subst (λ (es : List Entry). IsNonDecreasingBy (λ e. e.after) es) (ap (drop (length (h.done ++ due))) (sym parts) ∙ drop_front (h.done ++ due) later)
    (IsNonDecreasingBy-drop (λ e. e.after) (length (h.done ++ due)) entries h.lawful.after) in
    let is_due : AllByRecursion (λ e. e.after ≡ count) due = all_by (λ e. e.after ≤ min count greatest_count) (λ e. count ≤ e.after) (λ e. e.after ≡ count) (λ (e : Entry) (a : e.after ≤ min count greatest_count) (b : count ≤ e.after). omega arith) due most (all_front (λ e. count ≤ e.after) due later left_are) in
    let above : AllByRecursion (λ e. count + 1 ≤ e.after) later = all_by (λ e. min count greatest_count < e.after) IsInRange (λ e. count + 1 ≤ e.after) (λ (e : Entry) (a : min count greatest_count < e.after) (b : IsInRange e). let r : e.after < 18446744073709551616 = b.after in omega arith) later (later_above (min count greatest_count) later sorted least) later_ranged in
    let p : Entry → Bool = λ e. e.after == count in
    let no_done : filter p h.done ≡ [] = filter_none p h.done (all_by (λ e. e.after < count) (λ e. e.after < count) (λ e. p e ≡ false) (λ (e : Entry) (a : e.after < count) (b : e.after < count). grind (arith, nat_tests)) h.done h.done_are h.done_are) in
    let yes : filter p due ≡ due = filter_all p due (all_by (λ e. e.after ≡ count) (λ e. e.after ≡ count) (λ e. p e ≡ true) (λ (e : Entry) (a : e.after ≡ count) (b : e.after ≡ count). grind (arith, nat_tests)) due is_due is_due) in
    let no_later : filter p later ≡ [] = filter_none p later (all_by (λ e. count + 1 ≤ e.after) (λ e. count + 1 ≤ e.after) (λ e. p e ≡ false) (λ (e : Entry) (a : count + 1 ≤ e.after) (b : count + 1 ≤ e.after). grind (arith, nat_tests)) later above above) in
    record {
      due_are = ap (filter p) left_whole ∙ filter-append p h.done (due ++ later) ∙ ap (λ (es : List Entry). es ++ filter p (due ++ later)) no_done ∙ filter-append p due later ∙ ap (λ (es : List Entry). es ++ filter p later) yes ∙ ap (λ (es : List Entry). due ++ es) no_later ∙ append-nil due;
      below = all_by (λ e. e.after ≡ count) (λ e. e.after ≡ count) (λ e. e.after < count + 1) (λ (e : Entry) (a : e.after ≡ count) (b : e.after ≡ count). omega arith) due is_due is_due;
      above = above;
    }

-- the entries that are due were done
pub done_more : (count : ℕ) (entries : List Entry) (s new : ScriptedReader) (h : HasDone count entries s) (due later : List Entry) → h.left ≡ due ++ later → DueNow count entries s due later
    → new.script ≡ s.script → new.done ≡ s.done + length due → new.moment ≡ last_moment s.moment due → HasDone (count + 1) entries new
done_more count entries s new h due later cut d script done moment = record {
  done = h.done ++ due;
  left = later;
  whole = h.whole ∙ ap (λ (es : List Entry). h.done ++ es) cut ∙ sym (append_assoc h.done due later);
  lawful = h.lawful;
  script_is = script ∙ h.script_is;
  done_is = let a = h.done_is in omega (arith, length-append h.done due);
  done_are = all_both (λ e. e.after < count + 1) h.done due (all_by (λ e. e.after < count) (λ e. e.after < count) (λ e. e.after < count + 1) (λ (e : Entry) (a : e.after < count) (b : e.after < count). omega arith) h.done h.done_are h.done_are) d.below;
  left_are = d.above;
  moment_is = moment ∙ ap (λ (now : ℕ). last_moment now due) h.moment_is ∙ sym (last_moment-append 0 h.done due);
}

-- what is left after the entries done
pub left_of : (count : ℕ) (entries : List Entry) (s : ScriptedReader) (h : HasDone count entries s) → drop s.done s.script ≡ h.left
left_of count entries s h = rw (h.done_is, h.script_is) (ap (drop (length h.done)) h.whole ∙ drop_front h.done h.left)
