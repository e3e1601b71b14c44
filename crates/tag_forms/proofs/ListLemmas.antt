-- The answers to a list, an octet after another.
use Rattle.std.proofs.Common.{◌≡◌, ℕ, ◌+◌, ◌<◌, ◌≤◌, Bool, true, false, List, [], ◌∷◌, ◌++◌, length, get_or, drop, Option, refl, sym, ap, ◌∙◌, subst, inl, inr, append_assoc}
use Rattle.std.specs.Prelude.{◌||◌, nat_lt, Result, Ok, Err, OnOk, if◌then◌else◌}
use Rattle.std.specs.Result.{is_ok}
use Rattle.std.specs.Str.{IsUtf8}
use Rattle.std.proofs.lemmas.List.{append-nil, drop_more, drop_all}
use Rattle.tag_forms.specs.declared.company.Company.{Company}
use Rattle.tag_forms.specs.declared.list.TextList.{TextList}
use Rattle.tag_forms.specs.declared.wanted.Wanted.{Wanted}
use Rattle.tag_forms.specs.Company.{IsCount}
use Rattle.tag_forms.specs.Wanted.{IsWantedAnswer}
use Rattle.tag_forms.specs.Lists.{IsSameList, longest, longer, IsWithoutReturn, IsLineAnswer, Answers}
use Rattle.tag_forms.specs.Private.Lists.{Took}

or_assoc : (a b c : Bool) → ((a || b) || c) ≡ (a || (b || c))
or_assoc true b c = refl
or_assoc false b c = refl

pub or_false : (a : Bool) → (a || false) ≡ a
or_false true = refl
or_false false = refl

-- the answers so far: with the answers to the octets that are left they are those to all octets
pub record SoFar (old new : TextList) (before after octets : List ℕ) (i : ℕ) : Type 0 where
  pub done : List ℕ
  pub refused : Bool
  pub after_is : after ≡ before ++ done
  pub refused_is : new.refused ≡ (old.refused || refused)
  pub others : (begun : List ℕ) (r : Bool) (more : List ℕ) → Answers old.to old.filter old.company new.line.items (drop i octets) begun r more
      → Answers old.to old.filter old.company old.line.items octets begun (refused || r) (done ++ more)

pub none_yet : (list : TextList) (before octets : List ℕ) → SoFar list list before before octets 0
none_yet list before octets = record { done = []; refused = false; after_is = sym (append-nil before); refused_is = sym (or_false list.refused); others = λ begun r more h. h }

pub same_list : (a b c : TextList) → IsSameList a b → IsSameList b c → IsSameList a c
same_list a b c p q = record { to = q.to ∙ p.to; filter = q.filter ∙ p.filter; company = q.company ∙ p.company }

pub same_itself : (a : TextList) → IsSameList a a
same_itself a = record { to = refl; filter = refl; company = refl }

-- the answer to a line of a list that asks for the same
moved : (a b : TextList) (line : List ℕ) (r : Bool) (answer : List ℕ) → IsSameList a b → IsLineAnswer b.to b.filter b.company line r answer → IsLineAnswer a.to a.filter a.company line r answer
moved a b line r answer p h =
    let first = subst (λ (to : Wanted). IsLineAnswer to b.filter b.company line r answer) p.to h in
    let second = subst (λ (filter : ℕ). IsLineAnswer a.to filter b.company line r answer) p.filter first in
    subst (λ (company : Company). IsLineAnswer a.to a.filter company line r answer) p.company second

-- one octet more
pub step : (old list new : TextList) (before out after octets : List ℕ) (i : ℕ) → i < length octets → IsSameList old list → SoFar old list before out octets i → Took list (get_or octets i 0) new out after → SoFar old new before after octets (i + 1)
step old list new before out after octets i lt same s (inl (feed, empty, refused, answer, is, flag, grown)) =
    record {
      done = s.done ++ (answer ++ 10 ∷ []);
      refused = s.refused || refused;
      after_is = grown ∙ ap (λ (t : List ℕ). t ++ (answer ++ 10 ∷ [])) s.after_is ∙ append_assoc before s.done (answer ++ 10 ∷ []);
      refused_is = flag ∙ ap (λ (b : Bool). b || refused) s.refused_is ∙ or_assoc old.refused s.refused refused;
      others = λ begun r more h.
          let rest : Answers old.to old.filter old.company [] (drop (i + 1) octets) begun r more = subst (λ (line : List ℕ). Answers old.to old.filter old.company line (drop (i + 1) octets) begun r more) empty h in
          let here : Answers old.to old.filter old.company list.line.items (get_or octets i 0 ∷ drop (i + 1) octets) begun (refused || r) (answer ++ 10 ∷ more) =
          inl (feed, refused, r, answer, more, moved old list list.line.items refused answer same is, rest, refl, refl) in
          let all = s.others begun (refused || r) (answer ++ 10 ∷ more) (subst (λ (t : List ℕ). Answers old.to old.filter old.company list.line.items t begun (refused || r) (answer ++ 10 ∷ more)) (sym (drop_more octets i 0 lt)) here) in
          let text : s.done ++ (answer ++ 10 ∷ more) ≡ (s.done ++ (answer ++ 10 ∷ [])) ++ more = ap (λ (t : List ℕ). s.done ++ t) (sym (append_assoc answer (10 ∷ []) more)) ∙ sym (append_assoc s.done (answer ++ 10 ∷ []) more) in
          subst (λ (b : Bool). Answers old.to old.filter old.company old.line.items octets begun b ((s.done ++ (answer ++ 10 ∷ [])) ++ more)) (sym (or_assoc s.refused refused r))
          (subst (λ (t : List ℕ). Answers old.to old.filter old.company old.line.items octets begun (s.refused || (refused || r)) t) text all);
    }
step old list new before out after octets i lt same s (inr (other, line, flag, kept)) =
    record {
      done = s.done;
      refused = s.refused;
      after_is = kept ∙ s.after_is;
      refused_is = flag ∙ s.refused_is;
      others = λ begun r more h.
          let rest : Answers old.to old.filter old.company (longer list.line.items (get_or octets i 0)) (drop (i + 1) octets) begun r more = subst (λ (t : List ℕ). Answers old.to old.filter old.company t (drop (i + 1) octets) begun r more) line h in
          let here : Answers old.to old.filter old.company list.line.items (get_or octets i 0 ∷ drop (i + 1) octets) begun r more = inr (other, rest) in
          s.others begun r more (subst (λ (t : List ℕ). Answers old.to old.filter old.company list.line.items t begun r more) (sym (drop_more octets i 0 lt)) here);
    }

-- all octets
pub all_taken : (old new : TextList) (before after octets : List ℕ) (i : ℕ) → length octets ≤ i → SoFar old new before after octets i
    → (refused : Bool) × (lines : List ℕ) × Answers old.to old.filter old.company old.line.items octets new.line.items refused lines × (new.refused ≡ (old.refused || refused)) × (after ≡ before ++ lines)
all_taken old new before after octets i done s =
    let here : Answers old.to old.filter old.company new.line.items [] new.line.items false [] = (refl, refl, refl) in
    let all = s.others new.line.items false [] (subst (λ (t : List ℕ). Answers old.to old.filter old.company new.line.items t new.line.items false []) (sym (drop_all i octets done)) here) in
    let flag = subst (λ (b : Bool). Answers old.to old.filter old.company old.line.items octets new.line.items b (s.done ++ [])) (or_false s.refused) all in
    (s.refused, s.done, subst (λ (t : List ℕ). Answers old.to old.filter old.company old.line.items octets new.line.items s.refused t) (append-nil s.done) flag, s.refused_is, s.after_is)

-- ---- one line

pub text_line : (to : Wanted) (filter : ℕ) (company : Company) (count : Option ℕ) (line text read : List ℕ) (refused : Bool) (answer : List ℕ) → nat_lt longest (length line) ≡ false → IsWithoutReturn line text → read ≡ text → IsUtf8 text
    → IsCount company read count → IsWantedAnswer to filter count read refused answer → IsLineAnswer to filter company line refused answer
text_line to filter company count line text read refused answer few without same utf8 counted is =
    inr (few, text, without, inl (utf8, count, subst (λ (t : List ℕ). IsCount company t count) same counted, subst (λ (t : List ℕ). IsWantedAnswer to filter count t refused answer) same is))

-- what grew by one part and then by others
pub grown : (old mid new a b : List ℕ) → mid ≡ old ++ a → new ≡ mid ++ b → new ≡ old ++ (a ++ b)
grown old mid new a b p q = q ∙ ap (λ (x : List ℕ). x ++ b) p ∙ append_assoc old a b

-- what a call leaves by its answer, where that is Ok
pub left_on_ok : {A E : Type 0} (r : Result A E) (a b d : List ℕ) → a ≡ (if is_ok r then b else d) → OnOk r (a ≡ b)
left_on_ok (Ok x) a b d h = h
left_on_ok (Err e) a b d h = tt
