-- How long lines are.
use Rattle.std.proofs.Common.{◌≡◌, ℕ, suc, ◌+◌, ◌-◌, ◌*◌, ◌^◌, ◌<◌, ◌≤◌, inl, inr, Bool, true, false, cond, List, [], ◌∷◌, ◌++◌, map, length, refl, ap, ◌∙◌, arith, decimal, length-append}
use Rattle.std.specs.Prelude.{nat_lt}
use Rattle.std.specs.List.{join_with_byte}
use Rattle.std.proofs.lemmas.Fmt.{length-decimal-le, length-decimal-le_wide}
use Rattle.hex.specs.Hex.{lower_digits}
use Rattle.hex.proofs.HexLemmas.{length-encode_with}
use Rattle.llrp_schema.specs.declared.kinds.Kind.{Kind}
use Rattle.llrp_schema.specs.declared.kinds.Kind.TheVariants.{Message, Parameter}
use Rattle.llrp_schema.specs.declared.kinds.Tail.{Tail}
use Rattle.llrp_schema.specs.declared.kinds.Tail.TheVariants.{Absent, Words, Text, Bits, Data}
use Rattle.llrp_schema.specs.declared.kinds.KindSet.{KindSet}
use Rattle.llrp_schema.specs.declared.kinds.KindSet.TheVariants.{Profile, Standard}
use Rattle.llrp_schema.specs.Schema.{name_of, set_of_kind, tail_of}
use Rattle.llrp_schema.proofs.TableLaws.{name_short}
use Rattle.llrp_tree.specs.declared.TheConstants.{MAX_DEPTH, MAX_LIMIT}
use Rattle.tag_uri.proofs.TextShape.{text_short}
use Rattle.llrp_listing.specs.LineChecks.{IsInForm, AreInForm, IsTailOf, longest}
use Rattle.llrp_listing.specs.declared.parse_line.TheConstants.{LONGEST_LINE}
use Rattle.llrp_tree.specs.Tree.{words_of}
use Rattle.llrp_listing.specs.NodeLine.{NodeLine, NumberForm, Version, Id, Unsigned, Signed, Epc, number_forms, signed_text, IsNumberText, AreNumberTexts, tail_texts, spaced}
use Rattle.llrp_listing.proofs.LineShape.{rest_words}
use Rattle.llrp_listing.proofs.LineWords.{few_forms, message_forms, parameter_forms}
use Rattle.llrp_listing.proofs.TailWords.{AreSmall, words_small}

-- the length of words with a space before each
abbrev total : List (List ℕ) → ℕ
total [] = 0
total (w ∷ ws) = suc (length w + total ws)

spaced_length : (ws : List (List ℕ)) → length (spaced ws) ≡ total ws
spaced_length [] = refl
spaced_length (w ∷ ws) = omega (arith, length-append w (spaced ws), spaced_length ws)

total_append : (a b : List (List ℕ)) → total (a ++ b) ≡ total a + total b
total_append [] b = omega arith
total_append (w ∷ a) b = omega (arith, total_append a b)

decimal_short : (n : ℕ) → n < 10 ^ 20 → length (decimal n) ≤ 20
decimal_short n lt = length-decimal-le_wide 20 n (omega arith) lt (omega arith)

signed_short : (n : ℕ) → n < 2 ^ 8 → length (signed_text n) ≤ 90
signed_short n lt = on (nat_lt n 128)
  where
    on : (b : Bool) → length (cond b (decimal n) (45 ∷ decimal (256 - n))) ≤ 90
    on true = omega (arith, decimal_short n (omega arith))
    on false = omega (arith, decimal_short (256 - n) (omega arith))

number_short : (f : NumberForm) (n : ℕ) (w : List ℕ) → IsInForm f n → IsNumberText f n w → length w ≤ 90
number_short Version n w (inl p) h = omega (arith, ap length h, decimal_short n (omega arith))
number_short Version n w (inr p) h = omega (arith, ap length h, decimal_short n (omega arith))
number_short Id n w p h = omega (arith, ap length h, decimal_short n (omega arith))
number_short Unsigned n w p h = omega (arith, ap length h, decimal_short n p)
number_short Signed n w p h = omega (arith, ap length h, signed_short n p)
number_short Epc n w p h = text_short n w h

numbers_short : (fs : List NumberForm) (ns : List ℕ) (ws : List (List ℕ)) → AreInForm fs ns → AreNumberTexts fs ns ws → total ws ≤ 91 * length fs
numbers_short [] [] [] p h = omega arith
numbers_short [] [] (w ∷ ws) p h = absurd h
numbers_short [] (n ∷ ns) ws p h = absurd h
numbers_short (f ∷ fs) [] ws p h = absurd h
numbers_short (f ∷ fs) (n ∷ ns) [] p h = absurd h
numbers_short (f ∷ fs) (n ∷ ns) (w ∷ ws) p h = omega (arith, number_short f n w p.0 h.0, numbers_short fs ns ws p.1 h.1)

list_short : (ns : List ℕ) → AreSmall ns → length (join_with_byte 44 (map decimal ns)) ≤ 6 * length ns
list_short [] h = omega arith
list_short (n ∷ []) h = omega (arith, length-decimal-le 5 n (omega arith) (omega (arith, h.0)) (omega (arith, h.0)))
list_short (n ∷ m ∷ ns) h = omega (arith, length-append (decimal n) (44 ∷ join_with_byte 44 (map decimal (m ∷ ns))), length-decimal-le 5 n (omega arith) (omega (arith, h.0)) (omega (arith, h.0)), list_short (m ∷ ns) h.1)

words_count : (os : List ℕ) → 2 * length (words_of os) ≤ length os
words_count [] = omega arith
words_count (b ∷ []) = omega arith
words_count (b ∷ c ∷ os) = omega (arith, words_count os)

tail_short : (form : Tail) (tail : List ℕ) → IsTailOf form tail → total (tail_texts form tail) ≤ 3 * length tail + 3
tail_short Absent tail h = omega arith
tail_short Words tail h = omega (arith, list_short (words_of tail) (words_small tail h.0), words_count tail)
tail_short Text tail h = omega (arith, length-encode_with lower_digits tail)
tail_short Bits tail h = omega (arith, length-encode_with lower_digits tail)
tail_short Data tail h = omega (arith, length-encode_with lower_digits tail)

-- the most octets of a tail that a line of a set of kinds has
abbrev pub most_octets : KindSet → ℕ
most_octets Profile = 65535
most_octets Standard = MAX_LIMIT

pub few_in : (p : KindSet) {n : ℕ} → n ≤ 65535 → n ≤ most_octets p
few_in Profile le = le
few_in Standard le = omega (arith, le)

pub in_longest : (p : KindSet) {n : ℕ} → n ≤ LONGEST_LINE → n ≤ longest p
in_longest Profile le = le
in_longest Standard le = omega (arith, le)

room_for : (p : KindSet) (n m : ℕ) → n ≤ most_octets p → m ≤ 2000 + 3 * n → m ≤ longest p
room_for Profile n m le fits = omega (arith, le, fits)
room_for Standard n m le fits = omega (arith, le, fits)

forms_few : (kind : Kind) → length (number_forms kind) ≤ 14
forms_few (Message kind) = omega (arith, message_forms kind, few_forms (Message kind))
forms_few (Parameter kind) = omega (arith, parameter_forms kind, few_forms (Parameter kind))

-- a line of numbers in their forms has at most so many octets, and three more for each of its tail
pub line_octets : (level : ℕ) (line : NodeLine) (texts : List (List ℕ)) → level ≤ MAX_DEPTH → AreInForm (number_forms line.kind) line.numbers → AreNumberTexts (number_forms line.kind) line.numbers texts → IsTailOf (tail_of line.kind) line.tail
    → length (decimal level ++ spaced (rest_words line texts)) ≤ 2000 + 3 * length line.tail
line_octets level line texts deep p h t =
    let rest = texts ++ tail_texts (tail_of line.kind) line.tail in
    let all : length (decimal level ++ spaced (rest_words line texts)) ≡ length (decimal level) + total (name_of line.kind ∷ rest) = length-append (decimal level) (spaced (rest_words line texts)) ∙ ap (λ (n : ℕ). length (decimal level) + n) (spaced_length (rest_words line texts)) in
    omega (arith, all, decimal_short level (omega arith), name_short line.kind, total_append texts (tail_texts (tail_of line.kind) line.tail), numbers_short (number_forms line.kind) line.numbers texts p h, forms_few line.kind, tail_short (tail_of line.kind) line.tail t)

-- a line of numbers in their forms and of a tail that a parameter can have is short
pub line_short : (level : ℕ) (line : NodeLine) (texts : List (List ℕ)) → level ≤ MAX_DEPTH → AreInForm (number_forms line.kind) line.numbers → AreNumberTexts (number_forms line.kind) line.numbers texts → IsTailOf (tail_of line.kind) line.tail → length line.tail ≤ most_octets (set_of_kind line.kind)
    → length (decimal level ++ spaced (rest_words line texts)) ≤ longest (set_of_kind line.kind)
line_short level line texts deep p h t le = room_for (set_of_kind line.kind) (length line.tail) _ le (line_octets level line texts deep p h t)
