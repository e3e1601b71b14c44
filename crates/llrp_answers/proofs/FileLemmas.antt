-- The pairs of a file, one after another.
use Rattle.std.proofs.Common.{◌≡◌, ℕ, suc, ◌+◌, ◌-◌, ◌^◌, ◌<◌, ◌≤◌, ◌==◌, ◌&&◌, Bool, true, false, List, [], ◌∷◌, ◌++◌, length, take, drop, refl, sym, ap, subst, ◌∙◌, arith, append_assoc, zero-add, add_assoc, add-one, get_or, min, length-append, if◌then◌else◌}
use Rattle.std.proofs.Math.Seq.{drop-cons, take-suc}
use Rattle.std.proofs.lemmas.Bool.Decides.{nat_tests}
use Rattle.std.proofs.lemmas.List.{append-nil}
use Rattle.std.specs.Prelude.{Some, None}
use Rattle.llrp_schema.specs.declared.kinds.KindSet.TheVariants.{Standard}
use Rattle.llrp_tree.specs.declared.TheConstants.{MAX_LIMIT}
use Rattle.llrp_texts.specs.Calls.Texts.{RefusesText}
use Rattle.llrp_texts.specs.declared.texts.TextErr.{TextErr}
use Rattle.llrp_texts.specs.declared.texts.TextErr.TheVariants.{Line, Memory}
use Rattle.llrp_listing.specs.declared.outcome.Refusal.{Refusal}
use Rattle.llrp_listing.specs.declared.outcome.Refusal.TheVariants as refusal
use Rattle.llrp_listing.specs.Calls.ListingLaws.{IsListing}
use Rattle.llrp_listing.specs.Calls.Splits.{Lacks, IsSplit}
use Rattle.llrp_answers.specs.declared.answers.Pair.{Pair}
use Rattle.llrp_answers.specs.Calls.Answers.{IsFile, IsRefusedFile, RefusesFile, BeginsWithForm, BeginsWithPair, before_form, from_form, lines_in, ends, begins, later, no_listing, unended, no_form, bad_form}
use Rattle.llrp_answers.specs.Calls.Forms.{form_refusal}
use Rattle.llrp_answers.specs.Private.Words.{IsNextPair, later_by}

-- ---- how far a file is read: these pairs stand for what comes before the rest, which has this many lines

pub record Leads (text : List ℕ) (pairs : List Pair) (lines : ℕ) (rest : List ℕ) : Type 0 where
  pub file : (more : List Pair) → IsFile rest more → IsFile text (pairs ++ more)
  pub refused : (number : ℕ) (reason : Refusal) → IsRefusedFile rest number reason → IsRefusedFile text (lines + number) reason

pub leads_none : (text : List ℕ) → Leads text [] 0 text
leads_none text = record {
  file = λ more is. is;
  refused = λ number reason is. subst (λ (n : ℕ). IsRefusedFile text n reason) (sym (zero-add number)) is;
}

pub leads_on : (text rest after : List ℕ) (pairs : List Pair) (p : Pair) (lines : ℕ) → Leads text pairs lines rest → (b : BeginsWithPair rest p after)
    → Leads text (pairs ++ (p ∷ [])) (lines + (1 + lines_in (before_form true b.after))) after
leads_on text rest after pairs p lines l b = record {
  file = λ more is. subst (λ (ps : List Pair). IsFile text ps) (sym (append_assoc pairs (p ∷ []) more)) (l.file (p ∷ more) (begins rest after p more b is));
  refused = λ number reason is. subst (λ (n : ℕ). IsRefusedFile text n reason) (sym (add_assoc lines (1 + lines_in (before_form true b.after)) number)) (l.refused (1 + lines_in (before_form true b.after) + number) reason (later rest after p number reason b is));
}

-- the end of the file
pub leads_to_end : (text rest : List ℕ) (pairs : List Pair) (lines : ℕ) → Leads text pairs lines rest → rest ≡ [] → IsFile text pairs
leads_to_end text rest pairs lines l nothing = subst (λ (ps : List Pair). IsFile text ps) (append-nil pairs) (l.file [] (subst (λ (r : List ℕ). IsFile r []) (sym nothing) ends))

pub no_octets : (rest : List ℕ) → (length rest == 0) ≡ true → rest ≡ []
no_octets [] none = refl
no_octets (b ∷ rest) none = let some : (length (b ∷ rest) == 0) ≡ false = grind (arith, nat_tests) in absurd (let x : true ≡ false = sym none ∙ some in cc)

-- ---- where the next form begins

by_first : (b : ℕ) (bs : List ℕ) (is : Bool) → bs ≡ before_form (b == 10) bs ++ from_form (b == 10) bs
    → b ∷ bs ≡ (if is then [] else (b ∷ before_form (b == 10) bs)) ++ (if is then (b ∷ bs) else from_form (b == 10) bs)
by_first b bs true same = refl
by_first b bs false same = ap (λ (x : List ℕ). b ∷ x) same

pub parts : (starts : Bool) (text : List ℕ) → text ≡ before_form starts text ++ from_form starts text
parts starts [] = refl
parts false (b ∷ bs) = ap (λ (x : List ℕ). b ∷ x) (parts (b == 10) bs)
parts true (b ∷ bs) = by_first b bs (b == 63) (parts (b == 10) bs)

-- ---- refusals

no_more : (n : ℕ) → n < 2 ^ 64 → n ≡ min n (2 ^ 64 - 1)
no_more n small = omega arith

pub refused_first : (text : List ℕ) (reason : Refusal) → IsRefusedFile text 1 reason → RefusesFile text (Line 1 reason)
refused_first text reason is = (1, is, no_more 1 (omega arith))

pub refused_listing : (text form after : List ℕ) (error : TextErr) → BeginsWithForm text form after → RefusesText Standard MAX_LIMIT (before_form true after) error → RefusesFile text (later_by 1 error)
refused_listing text form after (Line line reason) b (ms, is) = (1 + line, no_listing text form after ms line reason b is, refl)
refused_listing text form after Memory b is = tt

least_of : (lines number : ℕ) → min (lines + min number (2 ^ 64 - 1)) (2 ^ 64 - 1) ≡ min (lines + number) (2 ^ 64 - 1)
least_of lines number = omega arith

pub refused_later : (text rest : List ℕ) (pairs : List Pair) (lines : ℕ) (error : TextErr) → Leads text pairs lines rest → RefusesFile rest error → RefusesFile text (later_by lines error)
refused_later text rest pairs lines (Line line reason) l (number, is, same) =
    (lines + number, l.refused number reason is, ap (λ (n : ℕ). min (lines + n) (2 ^ 64 - 1)) same ∙ least_of lines number)
refused_later text rest pairs lines Memory l is = tt

-- ---- a whole pair

pub is_next : (text form after rest : List ℕ) (p : Pair) (count : ℕ) → BeginsWithForm text form after → p.form.items ≡ form → IsListing Standard MAX_LIMIT (before_form true after) p.messages.items
    → rest ≡ from_form true after → count ≡ lines_in (before_form true after) → 1 + count + length rest ≤ length text → IsNextPair text p (1 + count) rest
is_next text form after rest p count b same lists is n few =
    let here : BeginsWithPair text p rest = record { after = after; form = subst (λ (f : List ℕ). BeginsWithForm text f after) (sym same) b; lists = lists; rest_is = is } in
    record { begins = here; lines_are = ap (λ (k : ℕ). 1 + k) n; few = few }

pub goes_there : (text rest after : List ℕ) (pairs now : List Pair) (p : Pair) (lines count : ℕ) → Leads text pairs lines rest → IsNextPair rest p count after → now ≡ pairs ++ (p ∷ []) → Leads text now (lines + count) after
goes_there text rest after pairs now p lines count l n e =
    let next : Leads text (pairs ++ (p ∷ [])) (lines + (1 + lines_in (before_form true n.begins.after))) after = leads_on text rest after pairs p lines l n.begins in
    subst (λ (ps : List Pair). Leads text ps (lines + count) after) (sym e) (subst (λ (k : ℕ). Leads text (pairs ++ (p ∷ [])) (lines + k) after) (sym n.lines_are) next)

pub after_line : (text form after : List ℕ) → BeginsWithForm text form after → length text ≡ length form + 3 + length after
after_line text form after b = omega (arith, ap (λ (x : List ℕ). length x) b.split.1, length-append (63 ∷ (32 ∷ form)) (10 ∷ after))

-- ---- a loop over octets

here : (text : List ℕ) (i b : ℕ) → i < length text → get_or text i 0 ≡ b → drop i text ≡ b ∷ drop (suc i) text
here text i b within is = drop-cons text i 0 within ∙ ap (λ (x : ℕ). x ∷ drop (suc i) text) is

stops_before : (starts : Bool) (bs rest : List ℕ) (b : ℕ) → bs ≡ b ∷ rest → (starts && (b == 63)) ≡ true → before_form starts bs ≡ []
stops_before starts bs rest b e own = rw (e, own) refl

stops_from : (starts : Bool) (bs rest : List ℕ) (b : ℕ) → bs ≡ b ∷ rest → (starts && (b == 63)) ≡ true → from_form starts bs ≡ bs
stops_from starts bs rest b e own = rw (e, own) refl

pub stops_there : (text : List ℕ) (starts : Bool) (i b : ℕ) → i < length text → get_or text i 0 ≡ b → (starts && (b == 63)) ≡ true → before_form true text ≡ take i text ++ before_form starts (drop i text) → take i text ≡ before_form true text
stops_there text starts i b within is own e = sym (e ∙ ap (λ (x : List ℕ). take i text ++ x) (stops_before starts (drop i text) (drop (suc i) text) b (here text i b within is) own) ∙ append-nil (take i text))

pub goes_from : (text : List ℕ) (starts : Bool) (i b : ℕ) → i < length text → get_or text i 0 ≡ b → (starts && (b == 63)) ≡ true → from_form true text ≡ from_form starts (drop i text) → drop i text ≡ from_form true text
goes_from text starts i b within is own e = sym (e ∙ stops_from starts (drop i text) (drop (suc i) text) b (here text i b within is) own)

passes_before : (starts : Bool) (bs rest : List ℕ) (b : ℕ) → bs ≡ b ∷ rest → (starts && (b == 63)) ≡ false → before_form starts bs ≡ b ∷ before_form (b == 10) rest
passes_before starts bs rest b e other = rw (e, other) refl

passes_from : (starts : Bool) (bs rest : List ℕ) (b : ℕ) → bs ≡ b ∷ rest → (starts && (b == 63)) ≡ false → from_form starts bs ≡ from_form (b == 10) rest
passes_from starts bs rest b e other = rw (e, other) refl

pub one_octet_before : (text : List ℕ) (starts : Bool) (i b : ℕ) → i < length text → get_or text i 0 ≡ b → (starts && (b == 63)) ≡ false → before_form true text ≡ take i text ++ before_form starts (drop i text)
    → before_form true text ≡ take (i + 1) text ++ before_form (b == 10) (drop (i + 1) text)
one_octet_before text starts i b within is other e =
    let more : take (suc i) text ≡ take i text ++ (b ∷ []) = take-suc text i 0 within ∙ ap (λ (x : ℕ). take i text ++ (x ∷ [])) is in
    let next : before_form true text ≡ take (suc i) text ++ before_form (b == 10) (drop (suc i) text) =
    e ∙ ap (λ (x : List ℕ). take i text ++ x) (passes_before starts (drop i text) (drop (suc i) text) b (here text i b within is) other) ∙ sym (append_assoc (take i text) (b ∷ []) (before_form (b == 10) (drop (suc i) text))) ∙ ap (λ (x : List ℕ). x ++ before_form (b == 10) (drop (suc i) text)) (sym more) in
    rw add-one next

pub one_octet_from : (text : List ℕ) (starts : Bool) (i b : ℕ) → i < length text → get_or text i 0 ≡ b → (starts && (b == 63)) ≡ false → from_form true text ≡ from_form starts (drop i text)
    → from_form true text ≡ from_form (b == 10) (drop (i + 1) text)
one_octet_from text starts i b within is other e = rw add-one (e ∙ passes_from starts (drop i text) (drop (suc i) text) b (here text i b within is) other)

-- ---- the first line

pub no_line : (text : List ℕ) → 0 < length text → Lacks 10 text → IsRefusedFile text 1 refusal.Line
no_line text some lacks = unended text some lacks

pub other_line : (text line after : List ℕ) → IsSplit 10 text line after → ((form : List ℕ) → line ≡ 63 ∷ (32 ∷ form) → ⊥) → IsRefusedFile text 1 refusal.Line
other_line text line after split none = no_form text line after split none

pub bad_line : (text line form after : List ℕ) (reason : Refusal) → IsSplit 10 text line after → line ≡ 63 ∷ (32 ∷ form) → form_refusal form ≡ Some reason → IsRefusedFile text 1 reason
bad_line text line form after reason split is e = bad_form text form after reason (subst (λ (l : List ℕ). IsSplit 10 text l after) is split) e

pub good_line : (text line form after : List ℕ) → IsSplit 10 text line after → line ≡ 63 ∷ (32 ∷ form) → form_refusal form ≡ None → BeginsWithForm text form after
good_line text line form after split is e = record { split = subst (λ (l : List ℕ). IsSplit 10 text l after) is split; lawful = e }
