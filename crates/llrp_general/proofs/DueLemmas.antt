-- The entries that are due after a frame.
use Rattle.std.proofs.Common.{◌≡◌, ℕ, ◌+◌, ◌-◌, ◌<◌, ◌≤◌, ◌==◌, nat_le, min, Bool, true, false, List, [], ◌∷◌, ◌++◌, length, take, drop, get_or, refl, sym, ap, subst, ◌∙◌, append_assoc, arith, inl, inr}
use Rattle.std.specs.List.{filter, AllByRecursion}
use Rattle.std.specs.List.Sorted.{IsNonDecreasingBy}
use Rattle.std.proofs.lemmas.Bool.Decides.{nat_tests}
use Rattle.std.proofs.lemmas.List.{append-nil, length-append, length-drop}
use Rattle.std.proofs.lemmas.List.Elements.{filter-append, recursion_from_All}
use Rattle.std.proofs.lemmas.List.Sorted.{IsNonDecreasingBy-drop}
use Rattle.std.proofs.Math.Seq.{take-length}
use Rattle.llrp_tree.specs.Tree.{MessageTree}
use Rattle.llrp_stream.specs.declared.item.Item.{Item}
use Rattle.llrp_endpoints.specs.declared.script.Entry.{Entry}
use Rattle.llrp_endpoints.specs.Calls.Script.{IsInRange, IsLawfulScript}
use Rattle.llrp_endpoints.specs.Serving.{entries_at, moment_after, last_moment}
use Rattle.llrp_endpoints.specs.TagLines.{greatest_count}
use Rattle.llrp_endpoints.proofs.ActingLemmas.{last_moment-append}
use Rattle.llrp_live.specs.Calls.Doings.{Dated}
use Rattle.llrp_live.specs.Calls.Living.{Begun, Lives}
use Rattle.llrp_general.specs.Private.Acting.{DidSome, DoesAll, HasDone, IsDue, entry_dates}
use Rattle.llrp_general.specs.Private.Due.{AreDue, DidDue, DidSomeDue, MayBeDue, count_of}
use Rattle.llrp_general.specs.declared.serving.WholeReader.{WholeReader}

-- ---- elements

all_by : (P Q R : Entry → Type 0) → ((e : Entry) → P e → Q e → R e) → (es : List Entry) → AllByRecursion P es → AllByRecursion Q es → AllByRecursion R es
all_by P Q R f [] p q = tt
all_by P Q R f (e ∷ es) p q = (f e p.0 q.0, all_by P Q R f es p.1 q.1)

all_front : (P : Entry → Type 0) (a b : List Entry) → AllByRecursion P (a ++ b) → AllByRecursion P a
all_front P [] b h = tt
all_front P (e ∷ a) b h = (h.0, all_front P a b h.1)

all_back : (P : Entry → Type 0) (a b : List Entry) → AllByRecursion P (a ++ b) → AllByRecursion P b
all_back P [] b h = h
all_back P (e ∷ a) b h = all_back P a b h.1

all_both : (P : Entry → Type 0) (a b : List Entry) → AllByRecursion P a → AllByRecursion P b → AllByRecursion P (a ++ b)
all_both P [] b h k = k
all_both P (e ∷ a) b h k = (h.0, all_both P a b h.1 k)

none_of : (P : Entry → Type 0) → ((e : Entry) → P e → ⊥) → (es : List Entry) → AllByRecursion P es → es ≡ []
none_of P f [] h = refl
none_of P f (e ∷ es) h = absurd (f e h.0)

filter_none : (p : Entry → Bool) (es : List Entry) → AllByRecursion (λ e. p e ≡ false) es → filter p es ≡ []
filter_none p [] h = refl
filter_none p (e ∷ es) h = rw h.0 (filter_none p es h.1)

filter_all : (p : Entry → Bool) (es : List Entry) → AllByRecursion (λ e. p e ≡ true) es → filter p es ≡ es
filter_all p [] h = refl
filter_all p (e ∷ es) h = rw h.0 (ap (λ (xs : List Entry). e ∷ xs) (filter_all p es h.1))

drop_front : (a b : List Entry) → drop (length a) (a ++ b) ≡ b
drop_front [] b = refl
drop_front (e ∷ a) b = drop_front a b

take_front : (a b : List Entry) → take (length a) (a ++ b) ≡ a
take_front [] b = refl
take_front (e ∷ a) b = ap (λ (es : List Entry). e ∷ es) (take_front a b)

none_before : (es : List Entry) → AllByRecursion (λ e. 0 ≤ e.after) es
none_before [] = tt
none_before (e ∷ es) = (omega arith, none_before es)

-- ---- the moment of the next frame

pub moment_of_done : (count : ℕ) (entries script : List Entry) (done moment : ℕ) → HasDone (count + 1) entries script done moment → moment ≡ moment_after count entries
moment_of_done count entries script done moment h =
    let p : Entry → Bool = λ e. nat_le e.after count in
    let yes : filter p h.first ≡ h.first = filter_all p h.first (all_by (λ e. e.after < count + 1) (λ e. e.after < count + 1) (λ e. p e ≡ true) (λ (e : Entry) (a : e.after < count + 1) (b : e.after < count + 1). grind (arith, nat_tests)) h.first h.first_are h.first_are) in
    let no : filter p h.left ≡ [] = filter_none p h.left (all_by (λ e. count + 1 ≤ e.after) (λ e. count + 1 ≤ e.after) (λ e. p e ≡ false) (λ (e : Entry) (a : count + 1 ≤ e.after) (b : count + 1 ≤ e.after). grind (arith, nat_tests)) h.left h.left_are h.left_are) in
    let all : filter p entries ≡ h.first = ap (filter p) h.whole ∙ filter-append p h.first h.left ∙ ap (λ (es : List Entry). es ++ filter p h.left) yes ∙ ap (λ (es : List Entry). h.first ++ es) no ∙ append-nil h.first in
    h.moment_is ∙ ap (last_moment 0) (sym all)

-- ---- the entries that are due

later_above : (t : ℕ) (later : List Entry) → IsNonDecreasingBy (λ e. e.after) later → ((e : Entry) (es : List Entry) → later ≡ e ∷ es → t < e.after) → AllByRecursion (λ e. t < e.after) later
later_above t [] sorted first = tt
later_above t (e ∷ es) sorted first =
    let above : t < e.after = first e es refl in
    recursion_from_All (λ (x : Entry). t < x.after) (e ∷ es) (λ (k : ℕ) (d : Entry) (within : k < length (e ∷ es)). let rises : e.after ≤ (get_or (e ∷ es) k d).after = sorted 0 k d (omega arith) within in omega arith)

-- those of this count
due_at_count : (n count : ℕ) (entries script : List Entry) (done moment : ℕ) (h : HasDone n entries script done moment) (due later : List Entry) → n ≡ count → h.left ≡ due ++ later
    → AllByRecursion (λ e. e.after ≤ min count greatest_count) due → AllByRecursion (λ e. count + 1 ≤ e.after) later → due ≡ entries_at count entries
due_at_count n count entries script done moment h due later same cut most above =
    let left_whole : entries ≡ h.first ++ (due ++ later) = h.whole ∙ ap (λ (es : List Entry). h.first ++ es) cut in
    let left_are : AllByRecursion (λ e. n ≤ e.after) (due ++ later) = subst (λ (es : List Entry). AllByRecursion (λ e. n ≤ e.after) es) cut h.left_are in
    let is_due : AllByRecursion (λ e. e.after ≡ count) due = all_by (λ e. e.after ≤ min count greatest_count) (λ e. n ≤ e.after) (λ e. e.after ≡ count) (λ (e : Entry) (a : e.after ≤ min count greatest_count) (b : n ≤ e.after). omega (arith, same)) due most (all_front (λ e. n ≤ e.after) due later left_are) in
    let p : Entry → Bool = λ e. e.after == count in
    let no_done : filter p h.first ≡ [] = filter_none p h.first (all_by (λ e. e.after < n) (λ e. e.after < n) (λ e. p e ≡ false) (λ (e : Entry) (a : e.after < n) (b : e.after < n). let c : e.after < count = omega (arith, same) in grind (arith, nat_tests)) h.first h.first_are h.first_are) in
    let yes : filter p due ≡ due = filter_all p due (all_by (λ e. e.after ≡ count) (λ e. e.after ≡ count) (λ e. p e ≡ true) (λ (e : Entry) (a : e.after ≡ count) (b : e.after ≡ count). grind (arith, nat_tests)) due is_due is_due) in
    let no_later : filter p later ≡ [] = filter_none p later (all_by (λ e. count + 1 ≤ e.after) (λ e. count + 1 ≤ e.after) (λ e. p e ≡ false) (λ (e : Entry) (a : count + 1 ≤ e.after) (b : count + 1 ≤ e.after). grind (arith, nat_tests)) later above above) in
    sym (ap (filter p) left_whole ∙ filter-append p h.first (due ++ later) ∙ ap (λ (es : List Entry). es ++ filter p (due ++ later)) no_done ∙ filter-append p due later ∙ ap (λ (es : List Entry). es ++ filter p later) yes ∙ ap (λ (es : List Entry). due ++ es) no_later ∙ append-nil due)

-- or none
none_due : (n count : ℕ) (entries script : List Entry) (done moment : ℕ) (h : HasDone n entries script done moment) (due later : List Entry) → n ≡ count + 1 → h.left ≡ due ++ later → AllByRecursion (λ e. e.after ≤ min count greatest_count) due → due ≡ []
none_due n count entries script done moment h due later same cut most =
    let left_are : AllByRecursion (λ e. n ≤ e.after) (due ++ later) = subst (λ (es : List Entry). AllByRecursion (λ e. n ≤ e.after) es) cut h.left_are in
    none_of (λ e. ⊥) (λ (e : Entry) (a : ⊥). a) due
    (all_by (λ e. e.after ≤ min count greatest_count) (λ e. n ≤ e.after) (λ e. ⊥) (λ (e : Entry) (a : e.after ≤ min count greatest_count) (b : n ≤ e.after). omega (arith, same, a, b)) due most (all_front (λ e. n ≤ e.after) due later left_are))

-- What is due after this many frames.
pub record DueNow (n count : ℕ) (entries due later : List Entry) : Type 0 where
  pub are : AreDue n count entries due
  pub below : AllByRecursion (λ e. e.after < count + 1) due
  pub above : AllByRecursion (λ e. count + 1 ≤ e.after) later

due_now : (n count : ℕ) (entries script : List Entry) (done moment : ℕ) (h : HasDone n entries script done moment) (due later : List Entry) → MayBeDue n count → h.left ≡ due ++ later
    → AllByRecursion (λ e. e.after ≤ min count greatest_count) due → ((e : Entry) (es : List Entry) → later ≡ e ∷ es → min count greatest_count < e.after) → DueNow n count entries due later
due_now n count entries script done moment h due later may cut most least =
    let left_whole : entries ≡ h.first ++ (due ++ later) = h.whole ∙ ap (λ (es : List Entry). h.first ++ es) cut in
    let ranged : AllByRecursion IsInRange (h.first ++ (due ++ later)) = subst (λ (es : List Entry). AllByRecursion IsInRange es) left_whole (recursion_from_All IsInRange entries h.lawful.in_range) in
    let later_ranged : AllByRecursion IsInRange later = all_back IsInRange due later (all_back IsInRange h.first (due ++ later) ranged) in
    let parts : (h.first ++ due) ++ later ≡ entries = append_assoc h.first due later ∙ sym left_whole in
    let sorted : IsNonDecreasingBy (λ e. e.after) later =
    subst (λ (es : List Entry). IsNonDecreasingBy (λ e. e.after) es) (ap (drop (length (h.first ++ due))) (sym parts) ∙ drop_front (h.first ++ due) later)
    (IsNonDecreasingBy-drop (λ e. e.after) (length (h.first ++ due)) entries h.lawful.after) in
    let above : AllByRecursion (λ e. count + 1 ≤ e.after) later = all_by (λ e. min count greatest_count < e.after) IsInRange (λ e. count + 1 ≤ e.after) (λ (e : Entry) (a : min count greatest_count < e.after) (b : IsInRange e). let r : e.after < 18446744073709551616 = b.after in omega arith) later (later_above (min count greatest_count) later sorted least) later_ranged in
    let are : AreDue n count entries due = elim may [
      | inl same ↦ inl (same, due_at_count n count entries script done moment h due later same cut most above)
      | inr same ↦ inr (same, none_due n count entries script done moment h due later same cut most)
    ] in
    record {
      are = are;
      below = all_by (λ e. e.after ≤ min count greatest_count) (λ e. e.after ≤ min count greatest_count) (λ e. e.after < count + 1) (λ (e : Entry) (a : e.after ≤ min count greatest_count) (b : e.after ≤ min count greatest_count). omega arith) due most most;
      above = above;
    }

-- what is left after the entries done
left_of : (n : ℕ) (entries script : List Entry) (done moment : ℕ) (h : HasDone n entries script done moment) → drop done script ≡ h.left
left_of n entries script done moment h = rw (h.done_is, h.script_is) (ap (drop (length h.first)) h.whole ∙ drop_front h.first h.left)

-- ---- the entries that are due happen

-- what is due, and what is left after it
record Parts (n count : ℕ) (entries script : List Entry) (done moment : ℕ) (left : List Entry) (k : ℕ) : Type 0 where
  h : HasDone n entries script done moment
  due : List Entry
  later : List Entry
  taken : take k left ≡ due
  counted : k ≡ length due
  cut : h.left ≡ due ++ later
  now : DueNow n count entries due later

parts : (n count : ℕ) (entries script : List Entry) (done moment taken : ℕ) (left : List Entry) (k : ℕ) → left ≡ drop done script → IsDue left taken k → HasDone n entries script done moment → MayBeDue n count → taken ≡ min count greatest_count
    → Parts n count entries script done moment left k
parts n count entries script done moment taken left k is d h may t =
    let cut : h.left ≡ d.due ++ d.later = sym (left_of n entries script done moment h) ∙ sym is ∙ d.whole in
    record {
      h = h;
      due = d.due;
      later = d.later;
      taken = rw (d.count_is, d.whole) (take_front d.due d.later);
      counted = d.count_is;
      cut = cut;
      now = due_now n count entries script done moment h d.due d.later may cut (subst (λ (m : ℕ). AllByRecursion (λ e. e.after ≤ m) d.due) t d.due_are) (λ (e : Entry) (es : List Entry) (p : d.later ≡ e ∷ es). let above = d.later_begin e es p in omega (arith, t, above));
    }

done_more : (n count : ℕ) (entries script script1 : List Entry) (done done1 moment moment1 : ℕ) (left : List Entry) (k : ℕ) (p : Parts n count entries script done moment left k) → script1 ≡ script → done1 ≡ done + k → moment1 ≡ last_moment moment (take k left)
    → MayBeDue n count → HasDone (count + 1) entries script1 done1 moment1
done_more n count entries script script1 done done1 moment moment1 left k p same more then may =
    let h = p.h in
    record {
      first = h.first ++ p.due;
      left = p.later;
      whole = h.whole ∙ ap (λ (es : List Entry). h.first ++ es) p.cut ∙ sym (append_assoc h.first p.due p.later);
      lawful = h.lawful;
      script_is = same ∙ h.script_is;
      done_is = let a = h.done_is in let b = p.counted in omega (arith, a, b, more, length-append h.first p.due);
      first_are = all_both (λ e. e.after < count + 1) h.first p.due (all_by (λ e. e.after < n) (λ e. e.after < n) (λ e. e.after < count + 1) (λ (e : Entry) (a : e.after < n) (b : e.after < n). below_next e a) h.first h.first_are h.first_are) p.now.below;
      left_are = p.now.above;
      moment_is = then ∙ ap (last_moment moment) p.taken ∙ ap (λ (now : ℕ). last_moment now p.due) h.moment_is ∙ sym (last_moment-append 0 h.first p.due);
    }
  where
    below_next : (e : Entry) → e.after < n → e.after < count + 1
    below_next e a = elim may [ inl is ↦ omega (arith, is, a) | inr is ↦ omega (arith, is, a) ]

pub did_due : (n : ℕ) (entries : List Entry) (b : Begun) (before : List Dated) (bytes : List ℕ) (items : List Item) (old new : WholeReader) (taken : ℕ) (left : List Entry) (k : ℕ) (out0 out1 : List MessageTree)
    → left ≡ drop old.done old.script → IsDue left taken k → DoesAll (entry_dates (take k left)) old.reader new.reader out0 out1 → new.script ≡ old.script → new.done ≡ old.done + k → new.moment ≡ last_moment old.moment (take k left)
    → Lives b before bytes items old.reader → taken ≡ min (count_of b items) greatest_count → HasDone n entries old.script old.done old.moment → MayBeDue n (count_of b items) → DidDue n entries b before bytes items old new out0 out1
did_due n entries b before bytes items old new taken left k out0 out1 is d does script done moment lives t h may =
    let p = parts n (count_of b items) entries old.script old.done old.moment taken left k is d h may t in
    record {
      due = take k left;
      are = subst (λ (es : List Entry). AreDue n (count_of b items) entries es) (sym p.taken) p.now.are;
      did = does b before bytes items lives;
      has_done = done_more n (count_of b items) entries old.script new.script old.done new.done old.moment new.moment left k p script done moment may;
      moment = moment;
    }

pub did_some_due : (n : ℕ) (entries : List Entry) (b : Begun) (before : List Dated) (bytes : List ℕ) (items : List Item) (old new : WholeReader) (taken : ℕ) (left : List Entry) (k : ℕ)
    → left ≡ drop old.done old.script → IsDue left taken k → DidSome (take k left) old.reader new.reader
    → taken ≡ min (count_of b items) greatest_count → HasDone n entries old.script old.done old.moment → MayBeDue n (count_of b items) → DidSomeDue n entries b items old new
did_some_due n entries b before bytes items old new taken left k is d some t h may =
    let p = parts n (count_of b items) entries old.script old.done old.moment taken left k is d h may t in
    record {
      due = take k left;
      are = subst (λ (es : List Entry). AreDue n (count_of b items) entries es) (sym p.taken) p.now.are;
      did = some;
    }

-- the rest of a slice
pub behind : (n : ℕ) (xs ys : List Entry) → xs ≡ ys → take (length xs - n) (drop n xs) ≡ drop n ys
behind n xs ys e = rw (← length-drop n xs) (take-length (drop n xs) ∙ ap (drop n) e)

-- the entries done are of the script
pub due_fits : (all script : List Entry) (done k taken : ℕ) → done ≤ length script → all ≡ script → IsDue (take (length all - done) (drop done all)) taken k → done + k ≤ length script
due_fits all script done k taken within same d =
    let left : take (length all - done) (drop done all) ≡ drop done script = behind done all script same in
    let long : length (drop done script) ≡ length d.due + length d.later = sym (ap length left) ∙ ap length d.whole ∙ length-append d.due d.later in
    omega (arith, within, long, length-drop done script, d.count_is)

-- ---- nothing is done

pub done_none : (entries script : List Entry) (done moment : ℕ) → IsLawfulScript entries → script ≡ entries → done ≡ 0 → moment ≡ 0 → HasDone 0 entries script done moment
done_none entries script done moment lawful same none begins = record {
  first = [];
  left = entries;
  whole = refl;
  lawful = lawful;
  script_is = same;
  done_is = none;
  first_are = tt;
  left_are = none_before entries;
  moment_is = begins;
}
