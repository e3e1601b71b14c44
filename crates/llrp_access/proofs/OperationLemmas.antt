-- Operations in order.
use Rattle.std.proofs.Common.{◌≡◌, ◌∙◌, ℕ, ◌+◌, ◌<◌, List, [], ◌∷◌, ◌++◌, length, map, take, get_or, refl, sym, ap, subst, Ok, Err}
use Rattle.std.specs.Prelude.{Result}
use Rattle.std.proofs.lemmas.List.{append-nil, take_more, map-append}
use Rattle.tag_memory.specs.declared.bank.Bank.{Bank}
use Rattle.tag_memory.specs.declared.bank.Fault.{Fault}
use Rattle.tag_memory.specs.Calls.Memory.{Memory, words_of, write}
use Rattle.tag_memory.proofs.MemoryLemmas.{keeps_lengths}
use Rattle.llrp_access.specs.declared.operation.Operation.{Operation}
use Rattle.llrp_access.specs.declared.operation.Operation.TheVariants.{Read, Write}
use Rattle.llrp_access.specs.declared.operation.OperationResult.{OperationResult}
use Rattle.llrp_access.specs.Calls.Operations.{Outcome, meaning, outcome, after, outcomes, after_all, read_so, read_outcome, written_so, write_outcome, written_or, written}
use Rattle.llrp_access.specs.Calls.Laws.{id_of, id_in, OneResultEach, GoesOn, KeepsLengths}

-- ---- one after another

pub outcomes-append : GoesOn
unfolding outcomes after_all
outcomes-append [] more m = refl
outcomes-append (o ∷ os) more m = ap (λ (xs : List Outcome). outcome o m ∷ xs) (outcomes-append os more (after o m))

pub after-append : (os more : List Operation) (m : Memory) → after_all (os ++ more) m ≡ after_all more (after_all os m)
unfolding after_all
after-append [] more m = refl
after-append (o ∷ os) more m = after-append os more (after o m)

-- one more of the operations
pub one_more : (os : List Operation) (i : ℕ) (o : Operation) (m : Memory) → i < length os → o ≡ get_or os i o → after_all (take (i + 1) os) m ≡ after o (after_all (take i os) m)
unfolding after_all
one_more os i o m within is =
    let front : take (i + 1) os ≡ take i os ++ o ∷ [] = take_more os i o within ∙ ap (λ (x : Operation). take i os ++ x ∷ []) (sym is) in
    ap (λ (x : List Operation). after_all x m) front ∙ after-append (take i os) (o ∷ []) m

pub one_more_result : (os : List Operation) (i : ℕ) (o : Operation) (m : Memory) (rs new : List OperationResult) (r : OperationResult) → i < length os → o ≡ get_or os i o → map meaning rs ≡ outcomes (take i os) m → new ≡ rs ++ r ∷ []
    → meaning r ≡ outcome o (after_all (take i os) m) → map meaning new ≡ outcomes (take (i + 1) os) m
unfolding outcomes
one_more_result os i o m rs new r within is so e one =
    let front : take (i + 1) os ≡ take i os ++ o ∷ [] = take_more os i o within ∙ ap (λ (x : Operation). take i os ++ x ∷ []) (sym is) in
    ap (map meaning) e ∙ map-append meaning rs (r ∷ []) ∙ ap (λ (x : List Outcome). x ++ meaning r ∷ []) so ∙ ap (λ (x : Outcome). outcomes (take i os) m ++ x ∷ []) one
    ∙ sym (ap (λ (x : List Operation). outcomes x m) front ∙ outcomes-append (take i os) (o ∷ []) m)

-- ---- laws

id_read : (id : ℕ) (r : Result (List ℕ) Fault) → id_in (read_so id r) ≡ id
id_read id (Ok words) = refl
id_read id (Err fault) = refl

id_written : (id count : ℕ) (r : Result Memory Fault) → id_in (written_so id count r) ≡ id
id_written id count (Ok n) = refl
id_written id count (Err fault) = refl

same_id : (o : Operation) (m : Memory) → id_in (outcome o m) ≡ id_of o
same_id (Read id password bank pointer count) m = id_read id _
same_id (Write id password bank pointer words) m = id_written id _ _

pub one_result_each : OneResultEach
unfolding outcomes
one_result_each [] m = refl
one_result_each (o ∷ os) m = ap (λ (n : ℕ). n ∷ map id_in (outcomes os (after o m))) (same_id o m) ∙ ap (λ (ns : List ℕ). id_of o ∷ ns) (one_result_each os (after o m))

kept_by : (password pointer : ℕ) (bank other : Bank) (words : List ℕ) (m : Memory) (r : Result Memory Fault) → write password bank pointer words m ≡ r → length (words_of other (written_or m r)) ≡ length (words_of other m)
kept_by password pointer bank other words m (Ok n) e = keeps_lengths password pointer bank other words m n e
kept_by password pointer bank other words m (Err fault) e = refl

one_keeps : (o : Operation) (m : Memory) (bank : Bank) → length (words_of bank (after o m)) ≡ length (words_of bank m)
one_keeps (Read id password from pointer count) m bank = refl
one_keeps (Write id password to pointer words) m bank = kept_by password pointer to bank words.items m _ refl

pub all_keep : KeepsLengths
unfolding after_all
all_keep [] m bank = refl
all_keep (o ∷ os) m bank = all_keep os (after o m) bank ∙ one_keeps o m bank
