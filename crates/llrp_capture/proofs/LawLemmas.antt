-- One run, one place.
use Rattle.std.proofs.Common.{◌≡◌, ◌∙◌, ℕ, suc, ◌+◌, ◌≤◌, ◌<◌, inl, inr, List, [], ◌∷◌, length, get_or, refl, sym, arith}
use Rattle.std.specs.Prelude.{Option, Some, None, slice_get}
use Rattle.std.proofs.lemmas.Bool.{cases_lt}
use Rattle.std.proofs.lemmas.Option.{slice_get-get_or}
use Rattle.llrp_capture.specs.Calls.Pieces.{Piece, octet_at, IsRun}
use Rattle.llrp_capture.specs.Calls.Laws.{HasOneRun, HasOnePlace}

-- lists of one length with the same at each place are one
same_list : (a b : List ℕ) → length a ≡ length b → ((k : ℕ) → k < length a → slice_get a k ≡ slice_get b k) → a ≡ b
same_list [] [] e h = refl
same_list [] (y ∷ b) e h = absurd (omega arith)
same_list (x ∷ a) [] e h = absurd (omega arith)
same_list (x ∷ a) (y ∷ b) e h =
    let first : Some x ≡ Some y = h 0 (omega arith) in
    let rest : a ≡ b = same_list a b (omega arith) (λ k l. h (suc k) (omega arith)) in
    cc

no_end : (o : Option ℕ) (x : ℕ) → o ≡ None → o ≡ Some x → ⊥
no_end o x a b = cc

-- a run ends where any other does, or before
no_longer : (pieces : List Piece) (start : ℕ) (a b : List ℕ) → IsRun pieces start a → IsRun pieces start b → length b ≤ length a
no_longer pieces start a b r s = elim (cases_lt (length a) (length b)) [
  | inr l ↦ l
  | inl l ↦ absurd (no_end (octet_at pieces (start + length a)) (get_or b (length a) 0) r.ends (s.has (length a) l ∙ slice_get-get_or b (length a) 0 l))
]

pub has_one_run : HasOneRun
has_one_run pieces start a b r s =
    let under : length b ≤ length a = no_longer pieces start a b r s in
    let over : length a ≤ length b = no_longer pieces start b a s r in
    same_list a b (omega arith) (λ k h. sym (r.has k h) ∙ s.has k (omega arith))

pub has_one_place : HasOnePlace
has_one_place here sequence a b r s =
    let x = r.number in let y = s.number in
    let ra = r.ahead in let rb = r.after in let sa = s.ahead in let sb = s.after in
    omega arith
