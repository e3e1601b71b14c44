-- The parts of a file, one after another.
use Rattle.std.proofs.Common.{◌≡◌, ℕ, suc, ◌+◌, ◌-◌, ◌^◌, ◌<◌, ◌==◌, ◌&&◌, ◌||◌, Bool, true, false, List, [], ◌∷◌, ◌++◌, length, take, drop, refl, sym, ap, subst, ◌∙◌, arith, append_assoc, zero-add, add_assoc, add-one, get_or, min, length-append, if◌then◌else◌}
use Rattle.std.proofs.Math.Seq.{drop-cons, take-suc}
use Rattle.std.proofs.lemmas.Bool.Decides.{nat_tests}
use Rattle.std.proofs.lemmas.List.{append-nil}
use Rattle.llrp_schema.specs.declared.kinds.KindSet.TheVariants.{Standard}
use Rattle.llrp_tree.specs.declared.TheConstants.{MAX_LIMIT}
use Rattle.llrp_texts.specs.Calls.Texts.{RefusesText}
use Rattle.llrp_texts.specs.declared.texts.TextErr.{TextErr}
use Rattle.llrp_texts.specs.declared.texts.TextErr.TheVariants.{Line, Memory}
use Rattle.llrp_listing.specs.declared.outcome.Refusal.{Refusal}
use Rattle.llrp_listing.specs.declared.outcome.Refusal.TheVariants as refusal
use Rattle.llrp_ask.specs.Calls.Files.{RefusesFile}
use Rattle.llrp_ask.specs.Private.Refusals.{RefusesOwn, later_by}
use Rattle.llrp_listing.specs.Calls.Splits.{Lacks, IsSplit}
use Rattle.std.specs.List.{AllZip}
use Rattle.llrp_tree.specs.Tree.{MessageTree}
use Rattle.llrp_listing.proofs.Zips.{zip_append}
use Rattle.llrp_ask.specs.declared.step.Step.{Step}
use Rattle.llrp_ask.specs.Calls.File.{IsFile, IsRefusedFile, IsStepOf, IsOwnLine, BeginsWithOwn, ListsSteps, begins_own, before_own, from_own, listed, lines_in, all_listed, with_own, later, no_listing, unended, no_own}
use Rattle.llrp_ask.specs.Calls.Raw.{IsNoOwn}

-- ---- how far a file is read: these steps stand for the lines before the rest

pub record Leads (raw : Bool) (text : List ℕ) (steps : List Step) (lines : ℕ) (rest : List ℕ) : Type 0 where
  pub file : (more : List Step) → IsFile raw rest more → IsFile raw text (steps ++ more)
  pub refused : (number : ℕ) (reason : Refusal) → IsRefusedFile raw rest number reason → IsRefusedFile raw text (lines + number) reason

pub leads_none : (raw : Bool) (text : List ℕ) → Leads raw text [] 0 text
leads_none raw text = record {
  file = λ more is. is;
  refused = λ number reason is. subst (λ (n : ℕ). IsRefusedFile raw text n reason) (sym (zero-add number)) is;
}

append_two : (a b c : List Step) (s : Step) → a ++ (b ++ (s ∷ c)) ≡ ((a ++ b) ++ (s ∷ [])) ++ c
append_two a b c s = sym (append_assoc (a ++ b) (s ∷ []) c ∙ append_assoc a b (s ∷ c))

pub leads_on : (raw : Bool) (text rest after : List ℕ) (steps some : List Step) (step : Step) (lines : ℕ) → Leads raw text steps lines rest → BeginsWithOwn raw rest some step after
    → Leads raw text ((steps ++ some) ++ (step ∷ [])) (lines + (lines_in (listed raw rest) + 1)) after
leads_on raw text rest after steps some step lines l begins = record {
  file = λ more is. subst (λ (s : List Step). IsFile raw text s) (append_two steps some more step) (l.file (some ++ (step ∷ more)) (with_own rest after some more step begins is));
  refused = λ number reason is. subst (λ (n : ℕ). IsRefusedFile raw text n reason) (sym (add_assoc lines (lines_in (listed raw rest) + 1) number)) (l.refused (lines_in (listed raw rest) + 1 + number) reason (later rest after some step number reason begins is));
}

-- the last listing
pub leads_to_end : (raw : Bool) (text rest : List ℕ) (steps some : List Step) (lines : ℕ) → Leads raw text steps lines rest → ListsSteps (listed raw rest) some → listed raw rest ≡ rest → IsFile raw text (steps ++ some)
leads_to_end raw text rest steps some lines l lists same = l.file some (all_listed rest some (subst (λ (t : List ℕ). ListsSteps t some) same lists))

-- ---- where the first line of the file's own begins

by_first : (raw : Bool) (b : ℕ) (bs : List ℕ) (is : Bool) → bs ≡ before_own raw (b == 10) bs ++ from_own raw (b == 10) bs
    → b ∷ bs ≡ (if is then [] else (b ∷ before_own raw (b == 10) bs)) ++ (if is then (b ∷ bs) else from_own raw (b == 10) bs)
by_first raw b bs true same = refl
by_first raw b bs false same = ap (λ (x : List ℕ). b ∷ x) same

pub parts : (raw starts : Bool) (text : List ℕ) → text ≡ before_own raw starts text ++ from_own raw starts text
parts raw starts [] = refl
parts raw false (b ∷ bs) = ap (λ (x : List ℕ). b ∷ x) (parts raw (b == 10) bs)
parts raw true (b ∷ bs) = by_first raw b bs (begins_own raw b) (parts raw (b == 10) bs)

-- ---- refusals

is_zero : (n : ℕ) → (n == 0) ≡ true → n ≡ 0
is_zero n e = grind (arith, nat_tests)

pub not_zero : (n : ℕ) → (n == 0) ≡ false → 0 < n
not_zero n e = grind (arith, nat_tests)

no_octets : (from : List ℕ) → length from ≡ 0 → from ≡ []
no_octets [] none = refl
no_octets (b ∷ from) none = absurd (omega (arith, none))

pub refused_later : (raw : Bool) (text rest : List ℕ) (steps : List Step) (lines : ℕ) (error : TextErr) → Leads raw text steps lines rest → RefusesText Standard MAX_LIMIT (listed raw rest) error → RefusesFile raw text (later_by lines error)
refused_later raw text rest steps lines (Line line reason) l (ms, is) = (lines + line, l.refused line reason (no_listing rest ms line reason is), refl)
refused_later raw text rest steps lines Memory l is = tt

no_more : (n : ℕ) → n < 2 ^ 64 → n ≡ min n (2 ^ 64 - 1)
no_more n small = omega arith

refused_at : (raw : Bool) (text : List ℕ) (number : ℕ) (reason : Refusal) → IsRefusedFile raw text number reason → number < 2 ^ 64 → RefusesFile raw text (Line number reason)
refused_at raw text number reason is small = (number, is, no_more number small)

pub refused_end : (raw : Bool) (text rest from : List ℕ) (steps some : List Step) (lines count : ℕ) → Leads raw text steps lines rest → ListsSteps (listed raw rest) some → from ≡ from_own raw true rest → (length from == 0) ≡ false → Lacks 10 from → count ≡ lines_in (listed raw rest) → lines + (count + 1) < 2 ^ 64
    → RefusesFile raw text (Line (lines + (count + 1)) refusal.Line)
refused_end raw text rest from steps some lines count l lists is some_octets lacks n small =
    let here : IsRefusedFile raw rest (lines_in (listed raw rest) + 1) refusal.Line = unended rest some lists (subst (λ (x : List ℕ). 0 < length x) is (not_zero (length from) some_octets)) (subst (Lacks 10) is lacks) in
    refused_at raw text (lines + (count + 1)) refusal.Line (l.refused (count + 1) refusal.Line (subst (λ (k : ℕ). IsRefusedFile raw rest (k + 1) refusal.Line) (sym n) here)) small

pub refused_own : (raw : Bool) (text rest from line after : List ℕ) (steps some : List Step) (lines count at : ℕ) (error : TextErr) → Leads raw text steps lines rest → ListsSteps (listed raw rest) some → from ≡ from_own raw true rest → IsSplit 10 from line after → at ≡ lines + (count + 1)
    → RefusesOwn line at error → count ≡ lines_in (listed raw rest) → lines + (count + 1) < 2 ^ 64 → RefusesFile raw text error
refused_own raw text rest from line after steps some lines count at Memory l lists is split place none n small = tt
refused_own raw text rest from line after steps some lines count at (Line number reason) l lists is split place (same, none) n small =
    let here : IsRefusedFile raw rest (lines_in (listed raw rest) + 1) reason = no_own rest line after some reason lists (subst (λ (x : List ℕ). IsSplit 10 x line after) is split) none in
    subst (λ (k : ℕ). RefusesFile raw text (Line k reason)) (sym (same ∙ place)) (refused_at raw text (lines + (count + 1)) reason (l.refused (count + 1) reason (subst (λ (k : ℕ). IsRefusedFile raw rest (k + 1) reason) (sym n) here)) small)

-- ---- a whole part

pub ends_there : (raw : Bool) (text rest from : List ℕ) (steps some all : List Step) (lines : ℕ) → Leads raw text steps lines rest → ListsSteps (listed raw rest) some → from ≡ from_own raw true rest → (length from == 0) ≡ true → all ≡ steps ++ some → IsFile raw text all
ends_there raw text rest from steps some all lines l lists is none e =
    let nothing : from_own raw true rest ≡ [] = sym is ∙ no_octets from (is_zero (length from) none) in
    let same : listed raw rest ≡ rest = sym (parts raw true rest ∙ ap (λ (x : List ℕ). listed raw rest ++ x) nothing ∙ append-nil (listed raw rest)) in
    subst (IsFile raw text) (sym e) (leads_to_end raw text rest steps some lines l lists same)

pub goes_there : (raw : Bool) (text rest from line after : List ℕ) (steps some all last : List Step) (step : Step) (lines count : ℕ) → Leads raw text steps lines rest → ListsSteps (listed raw rest) some → from ≡ from_own raw true rest → IsSplit 10 from line after → IsOwnLine line step
    → count ≡ lines_in (listed raw rest) → all ≡ steps ++ some → last ≡ all ++ (step ∷ []) → Leads raw text last (lines + (count + 1)) after
goes_there raw text rest from line after steps some all last step lines count l lists is split own n e f =
    let begins : BeginsWithOwn raw rest some step after = record { lists = lists; line = line; split = subst (λ (x : List ℕ). IsSplit 10 x line after) is split; own = own } in
    let next : Leads raw text ((steps ++ some) ++ (step ∷ [])) (lines + (lines_in (listed raw rest) + 1)) after = leads_on raw text rest after steps some step lines l begins in
    subst (λ (s : List Step). Leads raw text s (lines + (count + 1)) after) (sym (f ∙ ap (λ (s : List Step). s ++ (step ∷ [])) e)) (subst (λ (k : ℕ). Leads raw text ((steps ++ some) ++ (step ∷ [])) (lines + (k + 1)) after) (sym n) next)

pub shorter : (from line after : List ℕ) → IsSplit 10 from line after → length after < length from
shorter from line after split = omega (arith, ap (λ (x : List ℕ). length x) split.1, length-append line (10 ∷ after))

-- ---- a loop over octets

here : (text : List ℕ) (i b : ℕ) → i < length text → get_or text i 0 ≡ b → drop i text ≡ b ∷ drop (suc i) text
here text i b within is = drop-cons text i 0 within ∙ ap (λ (x : ℕ). x ∷ drop (suc i) text) is

stops_before : (raw starts : Bool) (bs rest : List ℕ) (b : ℕ) → bs ≡ b ∷ rest → (starts && begins_own raw b) ≡ true → before_own raw starts bs ≡ []
stops_before raw starts bs rest b e own = rw (e, own) refl

stops_from : (raw starts : Bool) (bs rest : List ℕ) (b : ℕ) → bs ≡ b ∷ rest → (starts && begins_own raw b) ≡ true → from_own raw starts bs ≡ bs
stops_from raw starts bs rest b e own = rw (e, own) refl

pub stops_there : (raw : Bool) (text : List ℕ) (starts : Bool) (i b : ℕ) → i < length text → get_or text i 0 ≡ b → (starts && begins_own raw b) ≡ true → before_own raw true text ≡ take i text ++ before_own raw starts (drop i text) → take i text ≡ before_own raw true text
stops_there raw text starts i b within is own e = sym (e ∙ ap (λ (x : List ℕ). take i text ++ x) (stops_before raw starts (drop i text) (drop (suc i) text) b (here text i b within is) own) ∙ append-nil (take i text))

pub goes_from : (raw : Bool) (text : List ℕ) (starts : Bool) (i b : ℕ) → i < length text → get_or text i 0 ≡ b → (starts && begins_own raw b) ≡ true → from_own raw true text ≡ from_own raw starts (drop i text) → drop i text ≡ from_own raw true text
goes_from raw text starts i b within is own e = sym (e ∙ stops_from raw starts (drop i text) (drop (suc i) text) b (here text i b within is) own)

passes_before : (raw starts : Bool) (bs rest : List ℕ) (b : ℕ) → bs ≡ b ∷ rest → (starts && begins_own raw b) ≡ false → before_own raw starts bs ≡ b ∷ before_own raw (b == 10) rest
passes_before raw starts bs rest b e other = rw (e, other) refl

passes_from : (raw starts : Bool) (bs rest : List ℕ) (b : ℕ) → bs ≡ b ∷ rest → (starts && begins_own raw b) ≡ false → from_own raw starts bs ≡ from_own raw (b == 10) rest
passes_from raw starts bs rest b e other = rw (e, other) refl

pub one_octet_before : (raw : Bool) (text : List ℕ) (starts : Bool) (i b : ℕ) → i < length text → get_or text i 0 ≡ b → (starts && begins_own raw b) ≡ false → before_own raw true text ≡ take i text ++ before_own raw starts (drop i text)
    → before_own raw true text ≡ take (i + 1) text ++ before_own raw (b == 10) (drop (i + 1) text)
one_octet_before raw text starts i b within is other e =
    let more : take (suc i) text ≡ take i text ++ (b ∷ []) = take-suc text i 0 within ∙ ap (λ (x : ℕ). take i text ++ (x ∷ [])) is in
    let next : before_own raw true text ≡ take (suc i) text ++ before_own raw (b == 10) (drop (suc i) text) =
    e ∙ ap (λ (x : List ℕ). take i text ++ x) (passes_before raw starts (drop i text) (drop (suc i) text) b (here text i b within is) other) ∙ sym (append_assoc (take i text) (b ∷ []) (before_own raw (b == 10) (drop (suc i) text))) ∙ ap (λ (x : List ℕ). x ++ before_own raw (b == 10) (drop (suc i) text)) (sym more) in
    rw add-one next

pub one_octet_from : (raw : Bool) (text : List ℕ) (starts : Bool) (i b : ℕ) → i < length text → get_or text i 0 ≡ b → (starts && begins_own raw b) ≡ false → from_own raw true text ≡ from_own raw starts (drop i text)
    → from_own raw true text ≡ from_own raw (b == 10) (drop (i + 1) text)
one_octet_from raw text starts i b within is other e = rw add-one (e ∙ passes_from raw starts (drop i text) (drop (suc i) text) b (here text i b within is) other)

-- ---- a loop over messages

pub one_more_step : (ms : List MessageTree) (i : ℕ) (m : MessageTree) (more : List Step) (step : Step) → i < length ms → m ≡ get_or ms i m → AllZip IsStepOf (take i ms) more → IsStepOf m step
    → AllZip IsStepOf (take (i + 1) ms) (more ++ (step ∷ []))
one_more_step ms i m more step within is are one =
    let next : take (suc i) ms ≡ take i ms ++ (m ∷ []) = take-suc ms i m within ∙ ap (λ (x : MessageTree). take i ms ++ (x ∷ [])) (sym is) in
    rw add-one (subst (λ (l : List MessageTree). AllZip IsStepOf l (more ++ (step ∷ []))) (sym next) (zip_append IsStepOf (take i ms) (m ∷ []) more (step ∷ []) are (one, tt)))
