-- How the word of a tail grows.
use Rattle.std.proofs.Common.{◌≡◌, ℕ, zero, suc, ◌+◌, ◌-◌, ◌*◌, ◌/◌, ◌%◌, ◌^◌, ◌<◌, ◌≤◌, List, [], ◌∷◌, ◌++◌, length, take, drop, get_or, map, refl, sym, ap, subst, ◌∙◌, arith, append_assoc, length-append, inl, inr}
use Rattle.std.specs.Prelude.{decimal, slice_index}
use Rattle.std.specs.List.{flat_map}
use Rattle.std.proofs.lemmas.Bool.{cases_lt}
use Rattle.std.proofs.lemmas.Fmt.{decimal_digit, decimal_step}
use Rattle.std.proofs.lemmas.Grind.{flat_map-append}
use Rattle.std.proofs.lemmas.List.{append-nil, map-append, get_or_at}
use Rattle.hex.specs.Hex.{encode_with, encode_lower, lower_digits}
use Rattle.llrp_schema.specs.declared.kinds.Tail.{Tail}
use Rattle.llrp_schema.specs.declared.kinds.Tail.TheVariants.{Words, Text, Bits, Data}
use Rattle.llrp_tree.specs.Tree.{words_of}
use Rattle.llrp_tree.specs.Lawful.{AreOctets}
use Rattle.llrp_tree.proofs.OctetLemmas.{octets-append}
use Rattle.llrp_listing.specs.NodeLine.{spaced, tail_texts, word_list_text}
use Rattle.llrp_listing.proofs.PrintingLemmas.{encode_more, other_words, join_first}
use Rattle.llrp_listing.specs.Private.Tails.{MoreWords, MoreTail}

-- ---- words

pub words_append : (a b : List ℕ) (n : ℕ) → length a ≡ 2 * n → words_of (a ++ b) ≡ words_of a ++ words_of b
words_append [] b n e = refl
words_append (x ∷ []) b n e = absurd (omega arith)
words_append (x ∷ y ∷ a) b zero e = absurd (omega arith)
words_append (x ∷ y ∷ a) b (suc n) e = ap (λ (z : List ℕ). (256 * x + y) ∷ z) (words_append a b n (omega arith))

other_more : (rest : List ℕ) (high low n : ℕ) → length rest ≡ 2 * n → other_words (rest ++ high ∷ low ∷ []) ≡ other_words rest ++ (44 ∷ decimal (256 * high + low))
other_more rest high low n e =
    ap (λ (ws : List ℕ). flat_map (λ word. 44 ∷ word) (map decimal ws)) (words_append rest (high ∷ low ∷ []) n e)
    ∙ ap (λ (ts : List (List ℕ)). flat_map (λ word. 44 ∷ word) ts) (map-append decimal (words_of rest) ((256 * high + low) ∷ []))
    ∙ flat_map-append (λ word. 44 ∷ word) (map decimal (words_of rest)) (decimal (256 * high + low) ∷ [])
    ∙ ap (λ (x : List ℕ). other_words rest ++ x) (append-nil (44 ∷ decimal (256 * high + low)))

list_text : (a b : ℕ) (rest : List ℕ) → word_list_text (a ∷ b ∷ rest) ≡ 119 ∷ (decimal (256 * a + b) ++ other_words rest)
list_text a b rest = ap (λ (x : List ℕ). 119 ∷ x) (join_first (decimal (256 * a + b)) (map decimal (words_of rest)))

-- ---- the last octet

last_is : (y : List ℕ) (d : ℕ) (text : List ℕ) → text ≡ y ++ d ∷ [] → slice_index text (length text - 1) ≡ d
last_is y d text e =
    let long = length-append y (d ∷ []) in
    let same = ap (λ (x : List ℕ). length x) e in
    let place : length text - 1 ≡ length y = omega (arith, long, same) in
    ap (λ (i : ℕ). get_or text i 0) place ∙ ap (λ (x : List ℕ). get_or x (length y) 0) e ∙ get_or_at y d [] 0 (length y) refl

-- a text whose last octet is a digit
record EndsInDigit (text : List ℕ) : Type 0 where
  front : List ℕ
  digit : ℕ
  is : text ≡ front ++ digit ∷ []
  below : digit < 58

ends_digit : (p : List ℕ) (w : ℕ) → w < 2 ^ 64 → EndsInDigit (p ++ decimal w)
ends_digit p w small = elim (cases_lt w 10) [
  | inl less ↦ record { front = p; digit = 48 + w; is = ap (λ (x : List ℕ). p ++ x) (decimal_digit w less); below = omega arith }
  | inr ge ↦ record { front = p ++ decimal (w / 10); digit = 48 + w % 10; is = ap (λ (x : List ℕ). p ++ x) (decimal_step w (omega arith) small) ∙ sym (append_assoc p (decimal (w / 10)) ((48 + w % 10) ∷ [])); below = omega arith }
]

moved : (p x y o : List ℕ) → p ++ (x ++ ((44 ∷ y) ++ o)) ≡ (p ++ (x ++ (44 ∷ []))) ++ (y ++ o)
moved p x y o = sym (append_assoc p (x ++ (44 ∷ [])) (y ++ o) ∙ ap (λ (z : List ℕ). p ++ z) (append_assoc x (44 ∷ []) (y ++ o)))

ends_list : (p : List ℕ) (w : ℕ) (rest : List ℕ) → w < 2 ^ 64 → AreOctets rest → EndsInDigit (p ++ (decimal w ++ other_words rest))
ends_list p w [] small os = subst (λ (x : List ℕ). EndsInDigit (p ++ x)) (sym (append-nil (decimal w))) (ends_digit p w small)
ends_list p w (a ∷ []) small os = subst (λ (x : List ℕ). EndsInDigit (p ++ x)) (sym (append-nil (decimal w))) (ends_digit p w small)
ends_list p w (a ∷ b ∷ rest) small os =
    let a8 = os.0 in
    let b8 = os.1.0 in
    subst (λ (x : List ℕ). EndsInDigit x) (sym (moved p (decimal w) (decimal (256 * a + b)) (other_words rest)))
    (ends_list (p ++ (decimal w ++ (44 ∷ []))) (256 * a + b) rest (omega arith) os.1.1)

list_ends : (front : List ℕ) (a b : ℕ) (rest old : List ℕ) → AreOctets (a ∷ b ∷ rest) → old ≡ front ++ word_list_text (a ∷ b ∷ rest) → slice_index old (length old - 1) < 58
list_ends front a b rest old os e =
    let a8 = os.0 in
    let b8 = os.1.0 in
    let whole : old ≡ (front ++ (119 ∷ [])) ++ (decimal (256 * a + b) ++ other_words rest) = e ∙ ap (λ (x : List ℕ). front ++ x) (list_text a b rest) ∙ sym (append_assoc front (119 ∷ []) (decimal (256 * a + b) ++ other_words rest)) in
    let d = ends_list (front ++ (119 ∷ [])) (256 * a + b) rest (omega arith) os.1.1 in
    let last = last_is d.front d.digit old (whole ∙ d.is) in
    omega (arith, last, d.below)

-- ---- one word more

word_first : (front : List ℕ) (high low : ℕ) (old new : List ℕ) → old ≡ front ++ word_list_text [] → new ≡ old ++ decimal (256 * high + low) → new ≡ front ++ word_list_text (high ∷ low ∷ [])
word_first front high low old new e f = f ∙ ap (λ (x : List ℕ). x ++ decimal (256 * high + low)) e ∙ append_assoc front (119 ∷ []) (decimal (256 * high + low))

regroup : (front x o w : List ℕ) → ((front ++ (119 ∷ (x ++ o))) ++ (44 ∷ [])) ++ w ≡ front ++ (119 ∷ (x ++ (o ++ (44 ∷ w))))
regroup front x o w =
    append_assoc (front ++ (119 ∷ (x ++ o))) (44 ∷ []) w ∙ append_assoc front (119 ∷ (x ++ o)) (44 ∷ w) ∙ ap (λ (z : List ℕ). front ++ (119 ∷ z)) (append_assoc x o (44 ∷ w))

word_next : (front : List ℕ) (a b : ℕ) (rest : List ℕ) (high low n : ℕ) (old comma new : List ℕ) → length rest ≡ 2 * n → old ≡ front ++ word_list_text (a ∷ b ∷ rest) → comma ≡ old ++ 44 ∷ [] → new ≡ comma ++ decimal (256 * high + low)
    → new ≡ front ++ word_list_text ((a ∷ b ∷ rest) ++ high ∷ low ∷ [])
word_next front a b rest high low n old comma new l e f g =
    let w : List ℕ = decimal (256 * high + low) in
    let x : List ℕ = decimal (256 * a + b) in
    g ∙ ap (λ (z : List ℕ). z ++ w) (f ∙ ap (λ (z : List ℕ). z ++ (44 ∷ [])) (e ∙ ap (λ (z : List ℕ). front ++ z) (list_text a b rest))) ∙ regroup front x (other_words rest) w
    ∙ ap (λ (z : List ℕ). front ++ (119 ∷ (x ++ z))) (sym (other_more rest high low n l)) ∙ ap (λ (z : List ℕ). front ++ z) (sym (list_text a b (rest ++ high ∷ low ∷ [])))

first_at : (high low : ℕ) (old new front before : List ℕ) (n : ℕ) → slice_index old (length old - 1) ≡ 119 → new ≡ old ++ decimal (256 * high + low)
    → AreOctets before → length before ≡ 2 * n → old ≡ front ++ word_list_text before → new ≡ front ++ word_list_text (before ++ high ∷ low ∷ [])
first_at high low old new front [] n is f os l e = word_first front high low old new e f
first_at high low old new front (a ∷ []) n is f os l e = absurd (omega arith)
first_at high low old new front (a ∷ b ∷ rest) n is f os l e = let less = list_ends front a b rest old os e in absurd (omega (arith, less, is))

pub word_alone : (high low : ℕ) (old new : List ℕ) → slice_index old (length old - 1) ≡ 119 → new ≡ old ++ decimal (256 * high + low) → MoreWords old new (high ∷ low ∷ [])
word_alone high low old new is f = λ front before n os l e. first_at high low old new front before n is f os l e

next_at : (high low : ℕ) (old comma new front before : List ℕ) (n : ℕ) → (slice_index old (length old - 1) ≡ 119 → ⊥) → comma ≡ old ++ 44 ∷ [] → new ≡ comma ++ decimal (256 * high + low)
    → length before ≡ 2 * n → old ≡ front ++ word_list_text before → new ≡ front ++ word_list_text (before ++ high ∷ low ∷ [])
next_at high low old comma new front [] n other f g l e = absurd (other (last_is front 119 old e))
next_at high low old comma new front (a ∷ []) n other f g l e = absurd (omega arith)
next_at high low old comma new front (a ∷ b ∷ rest) zero other f g l e = absurd (omega arith)
next_at high low old comma new front (a ∷ b ∷ rest) (suc n) other f g l e = word_next front a b rest high low n old comma new (omega arith) e f g

pub word_after : (high low : ℕ) (old comma new : List ℕ) → (slice_index old (length old - 1) ≡ 119 → ⊥) → comma ≡ old ++ 44 ∷ [] → new ≡ comma ++ decimal (256 * high + low) → MoreWords old new (high ∷ low ∷ [])
word_after high low old comma new other f g = λ front before n os l e. next_at high low old comma new front before n other f g l e

-- ---- more words

-- as far as a list is appended
pub record WordsDone (octets rest old now : List ℕ) : Type 0 where
  pub done : List ℕ
  pub count : ℕ
  pub parts : octets ≡ done ++ rest
  pub even : length done ≡ 2 * count
  pub are_octets : AreOctets done
  pub more : MoreWords old now done

pub none_done : (octets old : List ℕ) → WordsDone octets octets old old
none_done octets old = record { done = []; count = 0; parts = refl; even = refl; are_octets = tt; more = λ front before n os l e. e ∙ ap (λ (x : List ℕ). front ++ word_list_text x) (sym (append-nil before)) }

pub one_done : (octets rest others old now new : List ℕ) (high low : ℕ) → WordsDone octets rest old now → rest ≡ high ∷ low ∷ others → high < 256 → low < 256 → MoreWords now new (high ∷ low ∷ []) → WordsDone octets others old new
one_done octets rest others old now new high low w r h l m = record {
  done = w.done ++ high ∷ low ∷ [];
  count = w.count + 1;
  parts = w.parts ∙ ap (λ (x : List ℕ). w.done ++ x) r ∙ sym (append_assoc w.done (high ∷ low ∷ []) others);
  even = length-append w.done (high ∷ low ∷ []) ∙ (let e = w.even in omega arith);
  are_octets = octets-append w.done (high ∷ low ∷ []) w.are_octets (h, (l, tt));
  more = λ front before n os lb e.
      m front (before ++ w.done) (n + w.count) (octets-append before w.done os w.are_octets) (length-append before w.done ∙ (let a = w.even in omega arith)) (w.more front before n os lb e)
      ∙ ap (λ (x : List ℕ). front ++ word_list_text x) (append_assoc before w.done (high ∷ low ∷ []));
}

no_rest : (rest : List ℕ) (k : ℕ) → length rest < 2 → length rest ≡ 2 * k → rest ≡ []
no_rest [] k l e = refl
no_rest (a ∷ rest) k l e = absurd (omega arith)

pub all_done : (octets rest old now : List ℕ) (n : ℕ) → WordsDone octets rest old now → length rest < 2 → length octets ≡ 2 * n → MoreWords old now octets
all_done octets rest old now n w short e =
    let sum = ap (λ (x : List ℕ). length x) w.parts ∙ length-append w.done rest in
    let ev = w.even in
    let k : length rest ≡ 2 * (n - w.count) = omega (arith, sum, ev) in
    let gone = no_rest rest (n - w.count) short k in
    let same : octets ≡ w.done = w.parts ∙ ap (λ (x : List ℕ). w.done ++ x) gone ∙ append-nil w.done in
    subst (λ (x : List ℕ). MoreWords old now x) (sym same) w.more

pub pair_in : (rest word others : List ℕ) → word ≡ take 2 rest → others ≡ drop 2 rest → 2 ≤ length rest → rest ≡ get_or word 0 0 ∷ get_or word 1 0 ∷ others
pair_in [] word others e f l = absurd (omega arith)
pair_in (a ∷ []) word others e f l = absurd (omega arith)
pair_in (a ∷ b ∷ rest) word others e f l = rw (e, f) refl

after_octets : (done rest : List ℕ) → AreOctets (done ++ rest) → AreOctets rest
after_octets [] rest os = os
after_octets (d ∷ done) rest os = after_octets done rest os.1

pub octets_back : (done rest octets : List ℕ) → AreOctets octets → octets ≡ done ++ rest → AreOctets rest
octets_back done rest octets os e = after_octets done rest (subst AreOctets e os)

pub first_octet : (rest others : List ℕ) (a b : ℕ) → AreOctets rest → rest ≡ a ∷ b ∷ others → a < 256
first_octet rest others a b os e = (subst AreOctets e os).0

pub second_octet : (rest others : List ℕ) (a b : ℕ) → AreOctets rest → rest ≡ a ∷ b ∷ others → b < 256
second_octet rest others a b os e = (subst AreOctets e os).1.0

-- ---- tails

wrapped : (front w : List ℕ) → front ++ spaced (w ∷ []) ≡ (front ++ (32 ∷ [])) ++ w
wrapped front w = ap (λ (x : List ℕ). front ++ x) (append-nil (32 ∷ w)) ∙ sym (append_assoc front (32 ∷ []) w)

pub words_tail : (old new octets : List ℕ) → MoreWords old new octets → MoreTail Words old new octets
words_tail old new octets m = λ front before told e.
    m (front ++ (32 ∷ [])) before told.1.0 told.0 told.1.1 (e ∙ wrapped front (word_list_text before)) ∙ sym (wrapped front (word_list_text (before ++ octets)))

hex_grown : (old new octets front before : List ℕ) → new ≡ old ++ encode_lower octets → old ≡ front ++ spaced ((120 ∷ encode_lower before) ∷ []) → new ≡ front ++ spaced ((120 ∷ encode_lower (before ++ octets)) ∷ [])
hex_grown old new octets front before f e =
    f ∙ ap (λ (x : List ℕ). x ++ encode_lower octets) (e ∙ wrapped front (120 ∷ encode_lower before)) ∙ append_assoc (front ++ (32 ∷ [])) (120 ∷ encode_lower before) (encode_lower octets)
    ∙ ap (λ (x : List ℕ). (front ++ (32 ∷ [])) ++ (120 ∷ x)) (sym (encode_more lower_digits before octets)) ∙ sym (wrapped front (120 ∷ encode_lower (before ++ octets)))

pub text_tail : (old new octets : List ℕ) → new ≡ old ++ encode_lower octets → MoreTail Text old new octets
text_tail old new octets f = λ front before told e. hex_grown old new octets front before f e

pub bits_tail : (old new octets : List ℕ) → new ≡ old ++ encode_lower octets → MoreTail Bits old new octets
bits_tail old new octets f = λ front before told e. hex_grown old new octets front before f e

pub data_tail : (old new octets : List ℕ) → new ≡ old ++ encode_lower octets → MoreTail Data old new octets
data_tail old new octets f = λ front before told e. hex_grown old new octets front before f e

-- ---- what the word of a tail begins with

x_before : 32 ∷ 120 ∷ [] ≡ spaced ((120 ∷ encode_lower []) ∷ [])
unfolding encode_with
x_before = refl

pub text_started : (form : Tail) → form ≡ Text → 32 ∷ 120 ∷ [] ≡ spaced (tail_texts form [])
text_started form e = x_before ∙ ap (λ (f : Tail). spaced (tail_texts f [])) (sym e)

pub bits_started : (form : Tail) → form ≡ Bits → 32 ∷ 120 ∷ [] ≡ spaced (tail_texts form [])
bits_started form e = x_before ∙ ap (λ (f : Tail). spaced (tail_texts f [])) (sym e)

pub data_started : (form : Tail) → form ≡ Data → 32 ∷ 120 ∷ [] ≡ spaced (tail_texts form [])
data_started form e = x_before ∙ ap (λ (f : Tail). spaced (tail_texts f [])) (sym e)
