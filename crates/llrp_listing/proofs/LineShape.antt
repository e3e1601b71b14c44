-- The words of a line's text.
use Rattle.std.proofs.Common.{◌≡◌, ℕ, ◌-◌, ◌/◌, ◌%◌, ◌^◌, ◌<◌, ◌≤◌, inl, inr, Bool, true, false, cond, List, [], ◌∷◌, ◌++◌, map, get_or, refl, sym, ap, ◌∙◌, arith, decimal, append_assoc}
use Rattle.std.specs.Prelude.{nat_le, nat_lt, ◌==◌, ◌&&◌}
use Rattle.std.specs.Char.{is_ascii_digit}
use Rattle.std.specs.List.{All, join_with_byte}
use Rattle.std.specs.Str.{all_ascii_digits}
use Rattle.std.proofs.lemmas.List.{append-nil, append_cancel_right}
use Rattle.std.proofs.lemmas.List.Elements.{All-head, All-tail}
use Rattle.std.proofs.lemmas.List.Folds.{list_all-append}
use Rattle.hex.specs.Hex.{encode_lower, encode_with, lower_digits}
use Rattle.llrp_schema.specs.declared.kinds.KindSet.{KindSet}
use Rattle.llrp_schema.specs.declared.kinds.Kind.{Kind}
use Rattle.llrp_schema.specs.declared.kinds.Tail.{Tail}
use Rattle.llrp_schema.specs.declared.kinds.Tail.TheVariants.{Absent, Words, Text, Bits, Data}
use Rattle.llrp_schema.specs.Schema.{name_of, tail_of}
use Rattle.llrp_schema.proofs.TableLaws.{name_visible}
use Rattle.llrp_tree.specs.declared.TheConstants.{MAX_DEPTH}
use Rattle.llrp_tree.specs.Lawful.{AreOctets}
use Rattle.tag_uri.proofs.TextShape.{is_visible, are_visible, text_visible}
use Rattle.llrp_listing.specs.LineChecks.{is_printed, IsInForm, AreInForm, IsTailOf, SaysNode}
use Rattle.llrp_listing.specs.Lines.{NoLf}
use Rattle.llrp_tree.specs.Tree.{words_of}
use Rattle.llrp_listing.specs.NodeLine.{NodeLine, NumberForm, Version, Id, Unsigned, Signed, Epc, number_forms, signed_text, IsNumberText, AreNumberTexts, tail_texts, spaced}
use Rattle.llrp_listing.specs.Calls.Splits.{Lacks}
use Rattle.llrp_listing.specs.Lines.{words}
use Rattle.llrp_listing.proofs.DecimalWords.{digits_of}
use Rattle.tag_uri.proofs.UriLemmas.{left, right}
use Rattle.llrp_listing.proofs.TailWords.{below-at, AreSmall, words_small}
use Rattle.llrp_listing.proofs.WordLemmas.{one_part, first_part}

-- each of the words is of visible characters
abbrev pub AllVisible : List (List ℕ) → Type 0
AllVisible [] = Unit {0}
AllVisible (w ∷ ws) = (are_visible w ≡ true) × AllVisible ws

visible_append : (xs ys : List (List ℕ)) → AllVisible xs → AllVisible ys → AllVisible (xs ++ ys)
visible_append [] ys p q = q
visible_append (x ∷ xs) ys p q = (p.0, visible_append xs ys p.1 q)

both : (a b : List ℕ) → are_visible a ≡ true → are_visible b ≡ true → are_visible (a ++ b) ≡ true
both a b p q = list_all-append is_visible a b ∙ rw (p, q) refl

digits_visible : (w : List ℕ) → all_ascii_digits w ≡ true → are_visible w ≡ true
digits_visible [] h = refl
digits_visible (c ∷ w) h = let t : is_visible c ≡ true = digit c (left _ _ h) in rw t (digits_visible w (right _ _ h))
  where
    digit : (c : ℕ) → is_ascii_digit c ≡ true → is_visible c ≡ true
    digit c e = grind arith

decimal_visible : (n : ℕ) → n < 10 ^ 20 → are_visible (decimal n) ≡ true
decimal_visible n lt = digits_visible (decimal n) (digits_of n lt).digits

signed_visible : (n : ℕ) → n < 2 ^ 8 → are_visible (signed_text n) ≡ true
signed_visible n lt = on (nat_lt n 128)
  where
    on : (b : Bool) → are_visible (cond b (decimal n) (45 ∷ decimal (256 - n))) ≡ true
    on true = decimal_visible n (omega arith)
    on false = decimal_visible (256 - n) (omega arith)

number_visible : (f : NumberForm) (n : ℕ) (w : List ℕ) → IsInForm f n → IsNumberText f n w → are_visible w ≡ true
number_visible Version n w (inl p) h = ap are_visible h ∙ decimal_visible n (omega arith)
number_visible Version n w (inr p) h = ap are_visible h ∙ decimal_visible n (omega arith)
number_visible Id n w p h = ap are_visible h ∙ decimal_visible n (omega arith)
number_visible Unsigned n w p h = ap are_visible h ∙ decimal_visible n p
number_visible Signed n w p h = ap are_visible h ∙ signed_visible n p
number_visible Epc n w p h = text_visible n w h

numbers_visible : (fs : List NumberForm) (ns : List ℕ) (ws : List (List ℕ)) → AreInForm fs ns → AreNumberTexts fs ns ws → AllVisible ws
numbers_visible [] [] [] p h = tt
numbers_visible [] [] (w ∷ ws) p h = absurd h
numbers_visible [] (n ∷ ns) ws p h = absurd h
numbers_visible (f ∷ fs) [] ws p h = absurd h
numbers_visible (f ∷ fs) (n ∷ ns) [] p h = absurd h
numbers_visible (f ∷ fs) (n ∷ ns) (w ∷ ws) p h = (number_visible f n w p.0 h.0, numbers_visible fs ns ws p.1 h.1)

list_visible : (ns : List ℕ) → AreSmall ns → are_visible (join_with_byte 44 (map decimal ns)) ≡ true
list_visible [] h = refl
list_visible (n ∷ []) h = decimal_visible n (omega (arith, h.0))
list_visible (n ∷ m ∷ ns) h = both (decimal n) (44 ∷ join_with_byte 44 (map decimal (m ∷ ns))) (decimal_visible n (omega (arith, h.0))) (list_visible (m ∷ ns) h.1)

glyph_visible : (n : ℕ) → n < 16 → is_visible (get_or lower_digits n 0) ≡ true
glyph_visible n lt = below-at (λ e. is_visible (get_or lower_digits e 0)) 16 n refl lt

lower_visible : (os : List ℕ) → AreOctets os → are_visible (encode_lower os) ≡ true
unfolding encode_with
lower_visible [] h = refl
lower_visible (b ∷ os) h =
    let x : is_visible (get_or lower_digits (b / 16) 0) ≡ true = glyph_visible (b / 16) (omega (arith, h.0)) in
    let y : is_visible (get_or lower_digits (b % 16) 0) ≡ true = glyph_visible (b % 16) (omega arith) in
    rw (x, y) (lower_visible os h.1)

tail_visible : (form : Tail) (tail : List ℕ) → IsTailOf form tail → AllVisible (tail_texts form tail)
tail_visible Absent tail h = tt
tail_visible Words tail h = (list_visible (words_of tail) (words_small tail h.0), tt)
tail_visible Text tail h = (lower_visible tail h, tt)
tail_visible Bits tail h = (lower_visible tail h, tt)
tail_visible Data tail h = (lower_visible tail h, tt)

names_visible : (kind : Kind) → are_visible (name_of kind) ≡ true
names_visible kind = on (name_of kind) (name_visible kind)
  where
    visible : (c : ℕ) → 33 ≤ c → c ≤ 126 → is_visible c ≡ true
    visible c a b = grind arith

    on : (w : List ℕ) → All (λ c. (33 ≤ c) × (c ≤ 126)) w → are_visible w ≡ true
    on [] h = refl
    on (c ∷ w) h = let r = All-head (λ c. (33 ≤ c) × (c ≤ 126)) c w h in let t : is_visible c ≡ true = visible c r.0 r.1 in rw t (on w (All-tail (λ c. (33 ≤ c) × (c ≤ 126)) c w h))

-- ---- visible words make printed lines, and are their words

lacks_space : (w : List ℕ) → are_visible w ≡ true → Lacks 32 w
lacks_space [] h = tt
lacks_space (c ∷ w) h = (no_space c (left _ _ h), lacks_space w (right _ _ h))
  where
    no_space : (c : ℕ) → is_visible c ≡ true → (c == 32) ≡ false
    no_space c h = grind arith

pub words_back : (w : List ℕ) (ws : List (List ℕ)) → are_visible w ≡ true → AllVisible ws → words (w ++ spaced ws) ≡ w ∷ ws
words_back w [] p q = ap words (append-nil w) ∙ one_part 32 w (lacks_space w p)
words_back w (x ∷ ws) p q = first_part 32 w (x ++ spaced ws) (lacks_space w p) ∙ ap (λ (z : List (List ℕ)). w ∷ z) (words_back x ws q.0 q.1)

word_printed : (w : List ℕ) → are_visible w ≡ true → is_printed w ≡ true
word_printed [] h = refl
word_printed (c ∷ w) h = let t : (nat_le 32 c && nat_le c 126) ≡ true = printed c (left _ _ h) in rw t (word_printed w (right _ _ h))
  where
    printed : (c : ℕ) → is_visible c ≡ true → (nat_le 32 c && nat_le c 126) ≡ true
    printed c h = grind arith

pub line_printed : (w : List ℕ) (ws : List (List ℕ)) → are_visible w ≡ true → AllVisible ws → is_printed (w ++ spaced ws) ≡ true
line_printed w [] p q = ap is_printed (append-nil w) ∙ word_printed w p
line_printed w (x ∷ ws) p q = list_all-append (λ b. nat_le 32 b && nat_le b 126) w (32 ∷ (x ++ spaced ws)) ∙ rw (word_printed w p, line_printed x ws q.0 q.1) refl

pub printed_no_lf : (x : List ℕ) → is_printed x ≡ true → NoLf x
printed_no_lf [] h = tt
printed_no_lf (c ∷ x) h = (no_lf c (left _ _ h), printed_no_lf x (right _ _ h))
  where
    no_lf : (c : ℕ) → (nat_le 32 c && nat_le c 126) ≡ true → (c == 10) ≡ false
    no_lf c h = grind arith

-- the words of a line after its level
abbrev pub rest_words : NodeLine → List (List ℕ) → List (List ℕ)
rest_words line texts = name_of line.kind ∷ (texts ++ tail_texts (tail_of line.kind) line.tail)

pub rest_visible : (line : NodeLine) (texts : List (List ℕ)) → AreInForm (number_forms line.kind) line.numbers → AreNumberTexts (number_forms line.kind) line.numbers texts → IsTailOf (tail_of line.kind) line.tail → AllVisible (rest_words line texts)
rest_visible line texts p h t = (names_visible line.kind, visible_append texts (tail_texts (tail_of line.kind) line.tail) (numbers_visible (number_forms line.kind) line.numbers texts p h) (tail_visible (tail_of line.kind) line.tail t))

pub level_visible : (level : ℕ) → level ≤ MAX_DEPTH → are_visible (decimal level) ≡ true
level_visible level le = decimal_visible level (omega arith)

-- the bytes of a line that is said
pub said_bytes : {p : KindSet} (bytes : List ℕ) (level : ℕ) (line : NodeLine) → (s : SaysNode p bytes level line) → bytes ≡ decimal level ++ spaced (rest_words line s.text.numbers)
said_bytes bytes level line s = append_cancel_right bytes (decimal level ++ spaced (rest_words line s.text.numbers)) (10 ∷ []) (s.text.text_is ∙ sym (append_assoc (decimal level) (spaced (rest_words line s.text.numbers)) (10 ∷ [])))

pub said_words : {p : KindSet} (bytes : List ℕ) (level : ℕ) (line : NodeLine) → (s : SaysNode p bytes level line) → words bytes ≡ decimal level ∷ rest_words line s.text.numbers
said_words bytes level line s = ap words (said_bytes bytes level line s) ∙ words_back (decimal level) (rest_words line s.text.numbers) (level_visible level s.deep) (rest_visible line s.text.numbers s.numbers s.text.are s.tail)

pub said_printed : {p : KindSet} (bytes : List ℕ) (level : ℕ) (line : NodeLine) → (s : SaysNode p bytes level line) → is_printed bytes ≡ true
said_printed bytes level line s = ap is_printed (said_bytes bytes level line s) ∙ line_printed (decimal level) (rest_words line s.text.numbers) (level_visible level s.deep) (rest_visible line s.text.numbers s.numbers s.text.are s.tail)
