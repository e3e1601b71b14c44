-- What is written is read back, and nothing else is touched.
use Rattle.std.proofs.Common.{◌≡◌, ◌∙◌, ℕ, ◌+◌, ◌≤◌, ◌<◌, ◌==◌, Bool, true, false, cond, List, [], ◌∷◌, ◌++◌, length, take, drop, refl, sym, ap, subst, arith, Ok, Err}
use Rattle.std.specs.Prelude.{◌≢◌, nat_le, ◌||◌, Option, Some, None, Result}
use Rattle.std.proofs.lemmas.Bool.{ne_eqb}
use Rattle.std.proofs.lemmas.Bool.Decides.{nat_tests}
use Rattle.std.proofs.lemmas.List.{length-append, length-take-le, length-drop}
use Rattle.std.proofs.Math.Seq.{take-append_seam, drop-append_seam}
use Rattle.tag_memory.specs.declared.bank.Bank.{Bank}
use Rattle.tag_memory.specs.declared.bank.Bank.TheVariants.{Reserved, Epc, Tid, User}
use Rattle.tag_memory.specs.declared.bank.Fault.{Fault}
use Rattle.tag_memory.specs.Calls.Memory.{Memory, words_of, with_words, put, refused, read, read_unless, write, written_unless, write_fault, is_admitted, has_words, words_from}
use Rattle.tag_memory.specs.Calls.Laws.{ReadsBack, KeepsOthers, KeepsLengths}

-- ---- words that are put

within : (pointer count : ℕ) (old : List ℕ) → has_words old pointer count ≡ true → pointer + count ≤ length old
within pointer count old e = grind (arith, nat_tests)

is_within : (pointer count : ℕ) (old : List ℕ) → pointer + count ≤ length old → has_words old pointer count ≡ true
is_within pointer count old h = grind (arith, nat_tests)

length-put : (old : List ℕ) (pointer : ℕ) (words : List ℕ) → pointer + length words ≤ length old → length (put old pointer words) ≡ length old
length-put old pointer words h =
    let front = length-take-le pointer old (omega arith) in
    let back = length-drop (pointer + length words) old in
    omega (arith, front, back, length-append (take pointer old) (words ++ drop (pointer + length words) old), length-append words (drop (pointer + length words) old))

put_there : (old : List ℕ) (pointer : ℕ) (words : List ℕ) → pointer + length words ≤ length old → take (length words) (drop pointer (put old pointer words)) ≡ words
put_there old pointer words h =
    let rest : List ℕ = words ++ drop (pointer + length words) old in
    let front : length (take pointer old) ≡ pointer = length-take-le pointer old (omega arith) in
    let back : drop pointer (put old pointer words) ≡ rest = ap (λ (n : ℕ). drop n (take pointer old ++ rest)) (sym front) ∙ drop-append_seam (take pointer old) rest in
    ap (take (length words)) back ∙ take-append_seam words (drop (pointer + length words) old)

-- ---- what was not refused

record IsDone (o : Option Fault) (bank : Bank) (pointer : ℕ) (words : List ℕ) (m n : Memory) : Type 0 where
  none : o ≡ None
  is : n ≡ with_words bank (put (words_of bank m) pointer words) m

is_done : (o : Option Fault) (bank : Bank) (pointer : ℕ) (words : List ℕ) (m n : Memory) → written_unless o bank pointer words m ≡ Ok n → IsDone o bank pointer words m n
is_done None bank pointer words m n e = record { none = refl; is = cc }
is_done (Some fault) bank pointer words m n e = absurd cc

record Passes (a b w : Bool) : Type 0 where
  admitted : a ≡ true
  may : b ≡ true
  there : w ≡ true

passes : (a b w : Bool) → refused a b w ≡ None → Passes a b w
passes true true true e = record { admitted = refl; may = refl; there = refl }
passes false b w e = absurd cc
passes true false w e = absurd cc
passes true true false e = absurd cc

-- ---- laws

pub reads_back : ReadsBack
unfolding read write
reads_back password pointer words m n some e =
    let d : IsDone (write_fault password User pointer words m) User pointer words m n = is_done (write_fault password User pointer words m) User pointer words m n e in
    let p : Passes (is_admitted password m) true (has_words m.user pointer (length words)) = passes (is_admitted password m) true (has_words m.user pointer (length words)) d.none in
    let fits : pointer + length words ≤ length m.user = within pointer (length words) m.user p.there in
    let k : Memory = with_words User (put m.user pointer words) m in
    let long : length k.user ≡ length m.user = length-put m.user pointer words fits in
    let there : has_words k.user pointer (length words) ≡ true = is_within pointer (length words) k.user (omega (arith, long, fits)) in
    let some_words : (length words == 0) ≡ false = ne_eqb (length words) 0 (λ h. omega (arith, h, some)) in
    let got : words_from k.user pointer (length words) ≡ words = ap (λ (b : Bool). cond b (drop pointer k.user) (take (length words) (drop pointer k.user))) some_words ∙ put_there m.user pointer words fits in
    ap (read password User pointer (length words)) d.is
    ∙ ap (λ (b : Bool). read_unless (refused b true (has_words k.user pointer (length words))) (words_from k.user pointer (length words))) p.admitted
    ∙ ap (λ (b : Bool). read_unless (refused true true b) (words_from k.user pointer (length words))) there
    ∙ ap (λ (x : List ℕ). read_unless None x) got

kept : (bank other : Bank) (words : List ℕ) (m : Memory) → other ≢ bank → words_of other (with_words bank words m) ≡ words_of other m
kept Reserved Reserved words m h = absurd (h refl)
kept Reserved Epc words m h = refl
kept Reserved Tid words m h = refl
kept Reserved User words m h = refl
kept Epc Reserved words m h = refl
kept Epc Epc words m h = absurd (h refl)
kept Epc Tid words m h = refl
kept Epc User words m h = refl
kept Tid Reserved words m h = refl
kept Tid Epc words m h = refl
kept Tid Tid words m h = absurd (h refl)
kept Tid User words m h = refl
kept User Reserved words m h = refl
kept User Epc words m h = refl
kept User Tid words m h = refl
kept User User words m h = absurd (h refl)

pub keeps_others : KeepsOthers
unfolding write
keeps_others password pointer bank other words m n e h =
    let d = is_done (write_fault password bank pointer words m) bank pointer words m n e in
    ap (words_of other) d.is ∙ kept bank other (put (words_of bank m) pointer words) m h

same_length : (bank other : Bank) (words : List ℕ) (m : Memory) → length words ≡ length (words_of bank m) → length (words_of other (with_words bank words m)) ≡ length (words_of other m)
same_length Reserved Reserved words m h = h
same_length Reserved Epc words m h = refl
same_length Reserved Tid words m h = refl
same_length Reserved User words m h = refl
same_length Epc Reserved words m h = refl
same_length Epc Epc words m h = h
same_length Epc Tid words m h = refl
same_length Epc User words m h = refl
same_length Tid Reserved words m h = refl
same_length Tid Epc words m h = refl
same_length Tid Tid words m h = h
same_length Tid User words m h = refl
same_length User Reserved words m h = refl
same_length User Epc words m h = refl
same_length User Tid words m h = refl
same_length User User words m h = h

pub keeps_lengths : KeepsLengths
unfolding write
keeps_lengths password pointer bank other words m n e =
    let d = is_done (write_fault password bank pointer words m) bank pointer words m n e in
    let p = passes _ _ (has_words (words_of bank m) pointer (length words)) d.none in
    let long = length-put (words_of bank m) pointer words (within pointer (length words) (words_of bank m) p.there) in
    ap (λ (x : Memory). length (words_of other x)) d.is ∙ same_length bank other (put (words_of bank m) pointer words) m long

-- ---- as the code writes

-- words were put into one bank of a memory with these banks
abbrev pub PutInto : Bank → ℕ → List ℕ → (a b c d : List ℕ) → Memory → Type 0
PutInto Reserved pointer words a b c d n = n ≡ record { reserved = put a pointer words; epc = b; tid = c; user = d }
PutInto Epc pointer words a b c d n = n ≡ record { reserved = a; epc = put b pointer words; tid = c; user = d }
PutInto Tid pointer words a b c d n = n ≡ record { reserved = a; epc = b; tid = put c pointer words; user = d }
PutInto User pointer words a b c d n = n ≡ record { reserved = a; epc = b; tid = c; user = put d pointer words }

put_so : (bank : Bank) (pointer : ℕ) (words a b c d : List ℕ) (n : Memory) → PutInto bank pointer words a b c d n
    → let m : Memory = record { reserved = a; epc = b; tid = c; user = d } in with_words bank (put (words_of bank m) pointer words) m ≡ n
put_so Reserved pointer words a b c d n h = sym h
put_so Epc pointer words a b c d n h = sym h
put_so Tid pointer words a b c d n h = sym h
put_so User pointer words a b c d n h = sym h

pub written : (bank : Bank) (password pointer : ℕ) (words a b c d : List ℕ) (m n : Memory) → write_fault password bank pointer words m ≡ None → record { reserved = a; epc = b; tid = c; user = d } ≡ m → PutInto bank pointer words a b c d n → write password bank pointer words m ≡ Ok n
unfolding write
written bank password pointer words a b c d m n none is h =
    ap (λ (o : Option Fault). written_unless o bank pointer words m) none
    ∙ ap (λ (x : Memory). written_unless None bank pointer words x) (sym is)
    ∙ ap (λ (x : Memory). Ok x) (put_so bank pointer words a b c d n h)
