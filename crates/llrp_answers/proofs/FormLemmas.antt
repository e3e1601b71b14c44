-- Words of lines and of forms.
use Rattle.std.proofs.Common.{◌≡◌, ℕ, suc, ◌+◌, ◌<◌, ◌≤◌, Bool, true, false, not, List, [], ◌∷◌, length, drop, refl, sym, ap, ◌∙◌, get_or, add-one, arith}
use Rattle.std.proofs.Math.Seq.{drop-cons}
use Rattle.std.proofs.lemmas.List.{drop_all}
use Rattle.std.specs.Prelude.{Option, Some, None, is_some}
use Rattle.std.specs.Borrow.{Bor}
use Rattle.llrp_listing.specs.Calls.Splits.{Lacks, IsSplit}
use Rattle.llrp_listing.specs.Lines.{words}
use Rattle.llrp_listing.proofs.WordLemmas.{one_part, some_word, split_part}
use Rattle.llrp_schema.specs.declared.kinds.Kind.TheVariants.{Message}
use Rattle.llrp_schema.specs.declared.kinds.MsgKind.{MsgKind}
use Rattle.llrp_schema.specs.declared.kinds.Tail.{Tail}
use Rattle.llrp_schema.specs.declared.kinds.Tail.TheVariants.{Absent, Words, Text, Bits, Data}
use Rattle.llrp_schema.specs.Schema.{fields_of, tail_of}
use Rattle.llrp_answers.specs.Calls.Forms.{fits, word_count, word_fits, words_of_tail}
use Rattle.llrp_answers.specs.Private.Words.{plain, words_in}

-- a line without a space is one word, and one with a space begins with the word before it
pub alone : (line : List ℕ) → Lacks 32 line → words line ≡ line ∷ []
alone line lacks = one_part 32 line lacks

pub before_space : (line first rest : List ℕ) → IsSplit 32 line first rest → words line ≡ first ∷ words rest
before_space line first rest split = split_part 32 line first rest split

-- ---- word by word

there : (line : List (List ℕ)) (i : ℕ) (w : List ℕ) → i < length line → w ≡ get_or line i w → drop i line ≡ w ∷ drop (suc i) line
there line i w within is = drop-cons line i w within ∙ ap (λ (x : List ℕ). x ∷ drop (suc i) line) (sym is)

pub no_more : (rest : Option (Bor (List ℕ))) (line : List (List ℕ)) (i : ℕ) (w : List ℕ) → i < length line → w ≡ get_or line i w → rest ≡ None → false ≡ fits (words_in rest) (drop i line)
unfolding fits
no_more rest line i w within is none = rw (none, there line i w within is) refl

pub other : (fs later line : List (List ℕ)) (i : ℕ) (f w : List ℕ) → i < length line → w ≡ get_or line i w → fs ≡ f ∷ later → word_fits f w ≡ false → false ≡ fits fs (drop i line)
unfolding fits
other fs later line i f w within is e n = rw (e, there line i w within is, n) refl

pub same : (fs later line : List (List ℕ)) (i : ℕ) (f w : List ℕ) → i < length line → w ≡ get_or line i w → fs ≡ f ∷ later → word_fits f w ≡ true → fits fs (drop i line) ≡ fits later (drop (i + 1) line)
unfolding fits
same fs later line i f w within is e y = rw (e, there line i w within is, y, add-one) refl

no_words : (ws : List (List ℕ)) → 0 < length ws → fits ws [] ≡ false
unfolding fits
no_words [] some = absurd (omega (arith, some))
no_words (w ∷ ws) some = refl

pub all_read : (rest : Option (Bor (List ℕ))) (none : Bool) → is_some rest ≡ not none → none ≡ fits (words_in rest) []
unfolding fits
all_read None true e = refl
all_read None false e = absurd (let x : true ≡ false = sym e in cc)
all_read (Some left) true e = absurd (let x : true ≡ false = e in cc)
all_read (Some left) false e = sym (no_words (words left.now) (some_word left.now))

pub at_end : (fs line : List (List ℕ)) (i : ℕ) → length line ≤ i → fits fs [] ≡ fits fs (drop i line)
at_end fs line i end = ap (fits fs) (sym (drop_all i line end))

-- ---- how many words a line has

counts : (kind : MsgKind) (n : ℕ) (t : Tail) (many : ℕ) → n ≡ length (plain (fields_of (Message kind))) → t ≡ tail_of (Message kind) → length (words_of_tail t []) ≡ many → 4 + n + many ≡ word_count kind
counts kind n t many e f g = rw (e, sym g, f) refl

pub without_tail : (kind : MsgKind) (n : ℕ) (t : Tail) → n ≡ length (plain (fields_of (Message kind))) → t ≡ tail_of (Message kind) → t ≡ Absent → 4 + n ≡ word_count kind
without_tail kind n t e f none = omega (arith, counts kind n t 0 e f (ap (λ (x : Tail). length (words_of_tail x [])) none))

one_word : (t : Tail) → (t ≡ Absent → ⊥) → length (words_of_tail t []) ≡ 1
one_word Absent some = absurd (some refl)
one_word Words some = refl
one_word Text some = refl
one_word Bits some = refl
one_word Data some = refl

pub with_tail : (kind : MsgKind) (n : ℕ) (t : Tail) → n ≡ length (plain (fields_of (Message kind))) → t ≡ tail_of (Message kind) → (t ≡ Absent → ⊥) → 5 + n ≡ word_count kind
with_tail kind n t e f some = omega (arith, counts kind n t 1 e f (one_word t some))
