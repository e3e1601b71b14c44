-- The object that is made of a line's text has the line's columns.
use Rattle.std.proofs.Common.{◌≡◌, ℕ, ◌+◌, ◌-◌, ◌/◌, ◌%◌, ◌^◌, ◌<◌, ◌≤◌, Bool, true, false, List, [], ◌∷◌, ◌++◌, length, take, drop, get_or, refl, sym, ap, subst, ◌∙◌, arith, append_assoc, length-append, zero, suc}
use Rattle.std.specs.Prelude.{◌==◌, Option, None, Some, not, nat_lt, codes, decimal, if◌then◌else◌}
use Rattle.std.specs.Char.{digit_value}
use Rattle.std.specs.Str.Parse.{AllDigits}
use Rattle.std.specs.List.{before_first, after_first, before_last, after_last, position_or_len, suffix_len}
use Rattle.std.proofs.lemmas.Bool.{agree_below_at, ne_eqb}
use Rattle.std.proofs.lemmas.Fmt.{decimal_is_IsNumeral_wide}
use Rattle.std.proofs.lemmas.List.{append-nil, take_at, drop_at, drop_all, get_or_append_left, get_or_at, get_or-append_right, append_cancel_right}
use Rattle.std.proofs.lemmas.List.Sums.{position_or_len_is, suffix_len_is}
use Rattle.hex.specs.Hex.{encode_with, encode_lower, lower_digits, IsBytes}
use Rattle.llrp_explain.specs.Calls.ExplainLines.{Standing, ANumber, Octets, ExplainLine, standing_bits}
use Rattle.llrp_schema.specs.declared.kinds.Kind.{Kind}
use Rattle.llrp_explain.specs.Calls.ExplainText.{field_value, is_signed, line_reading, line_text, line_value, number_text, read_text, signed_text, standing_text, tabbed, words_text}
use Rattle.llrp_explain.specs.Calls.ExplainJson.{HasShortColumns, IsShort, columns_json, field_end, field_json, first_word, is_space, is_tab, json_string, line_columns, line_object, other_words, reading_json, standing_json, value_member}

-- ---- texts without spaces

abbrev Solid : List ℕ → Type 0
Solid xs = (k : ℕ) → k < length xs → is_space (get_or xs k 0) ≡ false

solid_none : Solid []
solid_none k lt = absurd (omega (arith, lt))

solid_more : (x : ℕ) (xs : List ℕ) → is_space x ≡ false → Solid xs → Solid (x ∷ xs)
solid_more x xs other h zero lt = other
solid_more x xs other h (suc k) lt = h k (omega (arith, lt))

digit_solid : (c : ℕ) → digit_value c < 10 → is_space c ≡ false
digit_solid c lt = ne_eqb c 32 (λ e. let below : digit_value 32 < 10 = subst (λ (x : ℕ). digit_value x < 10) e lt in omega (arith, below))

digits_solid : (cs : List ℕ) → AllDigits 10 cs → Solid cs
digits_solid [] h = solid_none
digits_solid (c ∷ cs) h = solid_more c cs (digit_solid c h.0) (digits_solid cs h.1)

decimal_solid : (n : ℕ) → n < 10 ^ 64 → Solid (decimal n)
decimal_solid n lt = digits_solid (decimal n) (decimal_is_IsNumeral_wide n lt).0.1

-- ---- where a text is cut

first_space : (xs ys : List ℕ) → Solid xs → position_or_len is_space (xs ++ 32 ∷ ys) ≡ length xs
first_space xs ys h =
    position_or_len_is is_space (xs ++ 32 ∷ ys) (length xs) 0 (omega (arith, length-append xs (32 ∷ ys))) (λ k lt. ap is_space (get_or_append_left xs (32 ∷ ys) 0 k lt) ∙ h k lt)
    (λ lt. ap is_space (get_or_at xs 32 ys 0 (length xs) refl))

first_is : (xs ys : List ℕ) → Solid xs → first_word (xs ++ 32 ∷ ys) ≡ xs
first_is xs ys h = ap (λ (n : ℕ). take n (xs ++ 32 ∷ ys)) (first_space xs ys h) ∙ take_at xs (32 ∷ ys) (length xs) refl

others_are : (xs ys : List ℕ) → Solid xs → other_words (xs ++ 32 ∷ ys) ≡ ys
others_are xs ys h =
    ap (λ (n : ℕ). drop (n + 1) (xs ++ 32 ∷ ys)) (first_space xs ys h) ∙ ap (λ (x : List ℕ). drop (length xs + 1) x) (sym (append_assoc xs (32 ∷ []) ys))
    ∙ drop_at (xs ++ 32 ∷ []) ys (length xs + 1) (length-append xs (32 ∷ []))

last_space : (xs ys : List ℕ) → Solid ys → suffix_len (λ x. not (is_space x)) (xs ++ 32 ∷ ys) ≡ length ys
last_space xs ys h =
    let whole = length-append xs (32 ∷ ys) in
    let found : suffix_len (λ x. not (is_space x)) (xs ++ 32 ∷ ys) ≡ length (xs ++ 32 ∷ ys) - (length xs + 1)
    = suffix_len_is (λ x. not (is_space x)) (xs ++ 32 ∷ ys) (length xs + 1) 0 (omega (arith, whole)) (λ k le lt. later k le lt) (λ lt. here) in
    omega (arith, found, whole)
  where
    after : (k : ℕ) → length xs + 1 ≤ k → get_or (xs ++ 32 ∷ ys) k 0 ≡ get_or ys (k - (length xs + 1)) 0
    after k le = ap (λ (x : List ℕ). get_or x k 0) (sym (append_assoc xs (32 ∷ []) ys)) ∙ get_or-append_right (xs ++ 32 ∷ []) ys (length xs + 1) k 0 (length-append xs (32 ∷ [])) le

    later : (k : ℕ) → length xs + 1 ≤ k → k < length (xs ++ 32 ∷ ys) → not (is_space (get_or (xs ++ 32 ∷ ys) k 0)) ≡ true
    later k le lt = ap (λ (c : ℕ). not (is_space c)) (after k le) ∙ ap not (h (k - (length xs + 1)) (omega (arith, le, lt, length-append xs (32 ∷ ys))))

    here : not (is_space (get_or (xs ++ 32 ∷ ys) (length xs + 1 - 1) 0)) ≡ false
    here = let same : length xs + 1 - 1 ≡ length xs = omega arith in ap (λ (n : ℕ). not (is_space (get_or (xs ++ 32 ∷ ys) n 0))) same ∙ ap (λ (c : ℕ). not (is_space c)) (get_or_at xs 32 ys 0 (length xs) refl)

name_is : (xs ys : List ℕ) → Solid ys → before_last is_space (xs ++ 32 ∷ ys) ≡ xs
name_is xs ys h =
    let whole = length-append xs (32 ∷ ys) in
    let at : length (xs ++ 32 ∷ ys) - suffix_len (λ x. not (is_space x)) (xs ++ 32 ∷ ys) - 1 ≡ length xs = omega (arith, whole, last_space xs ys h) in
    ap (λ (n : ℕ). take n (xs ++ 32 ∷ ys)) at ∙ take_at xs (32 ∷ ys) (length xs) refl

value_is : (xs ys : List ℕ) → Solid ys → after_last is_space (xs ++ 32 ∷ ys) ≡ ys
value_is xs ys h =
    let whole = length-append xs (32 ∷ ys) in
    let at : length (xs ++ 32 ∷ ys) - suffix_len (λ x. not (is_space x)) (xs ++ 32 ∷ ys) ≡ length xs + 1 = omega (arith, whole, last_space xs ys h) in
    ap (λ (n : ℕ). drop n (xs ++ 32 ∷ ys)) at ∙ ap (λ (x : List ℕ). drop (length xs + 1) x) (sym (append_assoc xs (32 ∷ []) ys)) ∙ drop_at (xs ++ 32 ∷ []) ys (length xs + 1) (length-append xs (32 ∷ []))

-- ---- what stands in a field

number_json : (cs : List ℕ) → AllDigits 10 cs → 0 < length cs → standing_json cs ≡ codes "\"value\":" ++ cs
number_json [] h some = absurd (omega (arith, some))
number_json (c ∷ cs) h some =
    let other : (c == 120) ≡ false = ne_eqb c 120 (λ e. let below : digit_value 120 < 10 = subst (λ (x : ℕ). digit_value x < 10) e h.0 in omega (arith, below)) in
    rw other refl

signed_json : (value : ℕ) → value < 10 ^ 64 → standing_json (signed_text value) ≡ codes "\"value\":" ++ signed_text value
signed_json value h = elim (nat_lt value 128) as (λ b. standing_json (if b then decimal value else 45 ∷ decimal (256 - value)) ≡ codes "\"value\":" ++ (if b then decimal value else 45 ∷ decimal (256 - value))) [
  | true ↦ decimal_json value h
  | false ↦ refl
]
  where
    decimal_json : (value : ℕ) → value < 10 ^ 64 → standing_json (decimal value) ≡ codes "\"value\":" ++ decimal value
    decimal_json value h = let n = (decimal_is_IsNumeral_wide value h).0 in number_json (decimal value) n.1 n.0

standing_is : (s : Standing) → IsShort s → standing_json (standing_text s) ≡ value_member s (standing_text s)
standing_is (ANumber value) h = let n = (decimal_is_IsNumeral_wide value h).0 in number_json (decimal value) n.1 n.0
standing_is (Octets octets) h = refl

number_is : (kind : Kind) (name : List ℕ) (width value : ℕ) → value < 10 ^ 64 → standing_json (number_text kind name width value) ≡ codes "\"value\":" ++ number_text kind name width value
number_is kind name width value h = elim (is_signed kind name width) as (λ b. standing_json (if b then signed_text value else decimal value) ≡ codes "\"value\":" ++ (if b then signed_text value else decimal value)) [
  | true ↦ signed_json value h
  | false ↦ let n = (decimal_is_IsNumeral_wide value h).0 in number_json (decimal value) n.1 n.0
]

field_is : (before : Option Kind) (name : List ℕ) (width : ℕ) (s : Standing) → IsShort s → standing_json (field_value before name width s) ≡ value_member s (field_value before name width s)
field_is None name width s h = standing_is s h
field_is (Some kind) name width (ANumber value) h = number_is kind name width value h
field_is (Some kind) name width (Octets octets) h = refl

value_text_is : (before of : Option Kind) (l : ExplainLine) → IsShort l.standing → standing_json (line_value before of l) ≡ value_member l.standing (line_value before of l)
value_text_is before (Some kind) l h = standing_is l.standing h
value_text_is before None l h = field_is before l.name l.bits l.standing h

glyph_solid : (n : ℕ) → n < 16 → is_space (get_or lower_digits n 0) ≡ false
glyph_solid n lt = agree_below_at (λ e. is_space (get_or lower_digits e 0)) (λ e. false) 16 n refl lt

lower_solid : (os : List ℕ) → IsBytes os → Solid (encode_lower os)
unfolding encode_with
lower_solid [] h = solid_none
lower_solid (b ∷ os) h =
    let first : b < 256 = h 0 in
    solid_more (get_or lower_digits (b / 16) 0) (get_or lower_digits (b % 16) 0 ∷ encode_lower os) (glyph_solid (b / 16) (omega (arith, first)))
    (solid_more (get_or lower_digits (b % 16) 0) (encode_lower os) (glyph_solid (b % 16) (omega arith)) (lower_solid os (λ i. h (suc i))))

standing_solid : (s : Standing) → IsShort s → Solid (standing_text s)
standing_solid (ANumber value) h = decimal_solid value h
standing_solid (Octets octets) h = solid_more 120 (encode_lower octets) refl (lower_solid octets h)

signed_solid : (value : ℕ) → value < 10 ^ 64 → Solid (signed_text value)
signed_solid value h = elim (nat_lt value 128) as (λ b. Solid (if b then decimal value else 45 ∷ decimal (256 - value))) [
  | true ↦ decimal_solid value h
  | false ↦ solid_more 45 (decimal (256 - value)) refl (decimal_solid (256 - value) (omega arith))
]

number_solid : (kind : Kind) (name : List ℕ) (width value : ℕ) → value < 10 ^ 64 → Solid (number_text kind name width value)
number_solid kind name width value h = elim (is_signed kind name width) as (λ b. Solid (if b then signed_text value else decimal value)) [
  | true ↦ signed_solid value h
  | false ↦ decimal_solid value h
]

field_solid : (before : Option Kind) (name : List ℕ) (width : ℕ) (s : Standing) → IsShort s → Solid (field_value before name width s)
field_solid None name width s h = standing_solid s h
field_solid (Some kind) name width (ANumber value) h = number_solid kind name width value h
field_solid (Some kind) name width (Octets octets) h = standing_solid (Octets octets) h

value_solid : (before of : Option Kind) (l : ExplainLine) → IsShort l.standing → Solid (line_value before of l)
value_solid before (Some kind) l h = standing_solid l.standing h
value_solid before None l h = field_solid before l.name l.bits l.standing h

-- ---- texts without tabs

abbrev Tabless : List ℕ → Type 0
Tabless xs = (k : ℕ) → k < length xs → is_tab (get_or xs k 0) ≡ false

tabless_none : Tabless []
tabless_none k lt = absurd (omega (arith, lt))

tabless_more : (x : ℕ) (xs : List ℕ) → is_tab x ≡ false → Tabless xs → Tabless (x ∷ xs)
tabless_more x xs other h zero lt = other
tabless_more x xs other h (suc k) lt = h k (omega (arith, lt))

tabless_both : (xs ys : List ℕ) → Tabless xs → Tabless ys → Tabless (xs ++ ys)
tabless_both [] ys h g = g
tabless_both (x ∷ xs) ys h g = tabless_more x (xs ++ ys) (h 0 (omega arith)) (tabless_both xs ys (λ k lt. h (suc k) (omega (arith, lt))) g)

digits_tabless : (cs : List ℕ) → AllDigits 10 cs → Tabless cs
digits_tabless [] h = tabless_none
digits_tabless (c ∷ cs) h = tabless_more c cs (ne_eqb c 9 (λ e. let below : digit_value 9 < 10 = subst (λ (x : ℕ). digit_value x < 10) e h.0 in omega (arith, below))) (digits_tabless cs h.1)

decimal_tabless : (n : ℕ) → n < 10 ^ 64 → Tabless (decimal n)
decimal_tabless n lt = digits_tabless (decimal n) (decimal_is_IsNumeral_wide n lt).0.1

glyph_tabless : (n : ℕ) → n < 16 → is_tab (get_or lower_digits n 0) ≡ false
glyph_tabless n lt = agree_below_at (λ e. is_tab (get_or lower_digits e 0)) (λ e. false) 16 n refl lt

lower_tabless : (os : List ℕ) → IsBytes os → Tabless (encode_lower os)
unfolding encode_with
lower_tabless [] h = tabless_none
lower_tabless (b ∷ os) h =
    let first : b < 256 = h 0 in
    tabless_more (get_or lower_digits (b / 16) 0) (get_or lower_digits (b % 16) 0 ∷ encode_lower os) (glyph_tabless (b / 16) (omega (arith, first)))
    (tabless_more (get_or lower_digits (b % 16) 0) (encode_lower os) (glyph_tabless (b % 16) (omega arith)) (lower_tabless os (λ i. h (suc i))))

standing_tabless : (s : Standing) → IsShort s → Tabless (standing_text s)
standing_tabless (ANumber value) h = decimal_tabless value h
standing_tabless (Octets octets) h = tabless_more 120 (encode_lower octets) refl (lower_tabless octets h)

signed_tabless : (value : ℕ) → value < 10 ^ 64 → Tabless (signed_text value)
signed_tabless value h = elim (nat_lt value 128) as (λ b. Tabless (if b then decimal value else 45 ∷ decimal (256 - value))) [
  | true ↦ decimal_tabless value h
  | false ↦ tabless_more 45 (decimal (256 - value)) refl (decimal_tabless (256 - value) (omega arith))
]

number_tabless : (kind : Kind) (name : List ℕ) (width value : ℕ) → value < 10 ^ 64 → Tabless (number_text kind name width value)
number_tabless kind name width value h = elim (is_signed kind name width) as (λ b. Tabless (if b then signed_text value else decimal value)) [
  | true ↦ signed_tabless value h
  | false ↦ decimal_tabless value h
]

field_tabless : (before : Option Kind) (name : List ℕ) (width : ℕ) (s : Standing) → IsShort s → Tabless (field_value before name width s)
field_tabless None name width s h = standing_tabless s h
field_tabless (Some kind) name width (ANumber value) h = number_tabless kind name width value h
field_tabless (Some kind) name width (Octets octets) h = standing_tabless (Octets octets) h

value_tabless : (before of : Option Kind) (l : ExplainLine) → IsShort l.standing → Tabless (line_value before of l)
value_tabless before (Some kind) l h = standing_tabless l.standing h
value_tabless before None l h = field_tabless before l.name l.bits l.standing h

first_tab : (xs reading : List ℕ) → Tabless xs → position_or_len is_tab (xs ++ tabbed reading) ≡ length xs
first_tab xs [] h = position_or_len_is is_tab (xs ++ []) (length xs) 0 (omega (arith, length-append xs [])) (λ k lt. ap is_tab (get_or_append_left xs [] 0 k lt) ∙ h k lt) (λ lt. absurd (omega (arith, lt, length-append xs [])))
first_tab xs (c ∷ r) h =
    position_or_len_is is_tab (xs ++ 9 ∷ c ∷ r) (length xs) 0 (omega (arith, length-append xs (9 ∷ c ∷ r))) (λ k lt. ap is_tab (get_or_append_left xs (9 ∷ c ∷ r) 0 k lt) ∙ h k lt) (λ lt. ap is_tab (get_or_at xs 9 (c ∷ r) 0 (length xs) refl))

tab_front : (xs reading : List ℕ) → Tabless xs → before_first is_tab (xs ++ tabbed reading) ≡ xs
tab_front xs reading h = ap (λ (n : ℕ). take n (xs ++ tabbed reading)) (first_tab xs reading h) ∙ take_at xs (tabbed reading) (length xs) refl

tab_back : (xs reading : List ℕ) → Tabless xs → after_first is_tab (xs ++ tabbed reading) ≡ reading
tab_back xs [] h = drop_all (position_or_len is_tab (xs ++ []) + 1) (xs ++ []) (omega (arith, first_tab xs [] h, length-append xs []))
tab_back xs (c ∷ r) h =
    ap (λ (n : ℕ). drop (n + 1) (xs ++ 9 ∷ c ∷ r)) (first_tab xs (c ∷ r) h) ∙ ap (λ (x : List ℕ). drop (length xs + 1) x) (sym (append_assoc xs (9 ∷ []) (c ∷ r)))
    ∙ drop_at (xs ++ 9 ∷ []) (c ∷ r) (length xs + 1) (length-append xs (9 ∷ []))

-- ---- the object

-- the columns of a text
columns : (a b d name what text : List ℕ) → Solid a → Solid b → Solid d → Solid what → text ≡ a ++ 32 ∷ (b ++ 32 ∷ (d ++ 32 ∷ (name ++ 32 ∷ what)))
    → columns_json text ≡ codes "{\"bit\":" ++ (a ++ (codes ",\"width\":" ++ (b ++ (codes ",\"name\":" ++ (json_string name ++ (codes ",\"level\":" ++ (d ++ (codes "," ++ standing_json what))))))))
unfolding columns_json
columns a b d name what text p q r s e =
    let after_bit : other_words text ≡ b ++ 32 ∷ (d ++ 32 ∷ (name ++ 32 ∷ what)) = ap other_words e ∙ others_are a (b ++ 32 ∷ (d ++ 32 ∷ (name ++ 32 ∷ what))) p in
    let after_width : other_words (other_words text) ≡ d ++ 32 ∷ (name ++ 32 ∷ what) = ap other_words after_bit ∙ others_are b (d ++ 32 ∷ (name ++ 32 ∷ what)) q in
    let after_level : other_words (other_words (other_words text)) ≡ name ++ 32 ∷ what = ap other_words after_width ∙ others_are d (name ++ 32 ∷ what) r in
    let bit : first_word text ≡ a = ap first_word e ∙ first_is a (b ++ 32 ∷ (d ++ 32 ∷ (name ++ 32 ∷ what))) p in
    let width : first_word (other_words text) ≡ b = ap first_word after_bit ∙ first_is b (d ++ 32 ∷ (name ++ 32 ∷ what)) q in
    let level : first_word (other_words (other_words text)) ≡ d = ap first_word after_width ∙ first_is d (name ++ 32 ∷ what) r in
    let named : before_last is_space (other_words (other_words (other_words text))) ≡ name = ap (before_last is_space) after_level ∙ name_is name what s in
    let valued : after_last is_space (other_words (other_words (other_words text))) ≡ what = ap (after_last is_space) after_level ∙ value_is name what s in
    made _ a _ b _ name _ d _ what bit width named level valued
  where
    made : (a x b y name n d l what v : List ℕ) → a ≡ x → b ≡ y → name ≡ n → d ≡ l → what ≡ v
        → codes "{\"bit\":" ++ (a ++ (codes ",\"width\":" ++ (b ++ (codes ",\"name\":" ++ (json_string name ++ (codes ",\"level\":" ++ (d ++ (codes "," ++ standing_json what))))))))
        ≡ codes "{\"bit\":" ++ (x ++ (codes ",\"width\":" ++ (y ++ (codes ",\"name\":" ++ (json_string n ++ (codes ",\"level\":" ++ (l ++ (codes "," ++ standing_json v))))))))
    made a x b y name n d l what v p q r s t = rw (p, q, r, s, t) refl

-- the text of a line, without LF
without_end : (a b d name what reading text : List ℕ) → a ++ (32 ∷ (b ++ (32 ∷ (d ++ (32 ∷ (name ++ (32 ∷ ((what ++ reading) ++ (10 ∷ []))))))))) ≡ text ++ 10 ∷ [] → text ≡ (a ++ 32 ∷ (b ++ 32 ∷ (d ++ 32 ∷ (name ++ 32 ∷ what)))) ++ reading
without_end a b d name what reading text e =
    append_cancel_right text ((a ++ 32 ∷ (b ++ 32 ∷ (d ++ 32 ∷ (name ++ 32 ∷ what)))) ++ reading) (10 ∷ []) (sym e ∙ simp append_assoc refl)

-- the object of columns without a tab, and of a reading
with_reading : (refused : Bool) (cols reading text made : List ℕ) → Tabless cols → text ≡ cols ++ tabbed reading → columns_json cols ≡ made → field_json refused text ≡ made ++ (reading_json reading ++ field_end refused)
unfolding field_json
with_reading refused cols reading text made t e c =
    let front : before_first is_tab text ≡ cols = ap (before_first is_tab) e ∙ tab_front cols reading t in
    let back : after_first is_tab text ≡ reading = ap (after_first is_tab) e ∙ tab_back cols reading t in
    ap (λ (x : List ℕ). columns_json x ++ (reading_json (after_first is_tab text) ++ field_end refused)) front ∙ ap (λ (x : List ℕ). x ++ (reading_json (after_first is_tab text) ++ field_end refused)) c
    ∙ ap (λ (x : List ℕ). made ++ (reading_json x ++ field_end refused)) back

spaced : (xs ys : List ℕ) → Tabless xs → Tabless ys → Tabless (xs ++ 32 ∷ ys)
spaced xs ys h g = tabless_both xs (32 ∷ ys) h (tabless_more 32 ys refl g)

pub object_is : (before : Option Kind) (refused : Bool) (bit : ℕ) (l : ExplainLine) (text : List ℕ) → HasShortColumns bit l → read_text before bit l ≡ text ++ 10 ∷ [] → field_json refused text ≡ line_object before refused bit l
object_is before refused bit l text h e =
    let width : ℕ = standing_bits l.bits l.standing in
    let what : List ℕ = line_value before l.kind l in
    let cols : List ℕ = decimal bit ++ 32 ∷ (decimal width ++ 32 ∷ (decimal l.level ++ 32 ∷ (l.name ++ 32 ∷ what))) in
    let tabless : Tabless cols = spaced (decimal bit) _ (decimal_tabless bit h.bit_short) (spaced (decimal width) _ (decimal_tabless width h.width_short) (spaced (decimal l.level) _ (decimal_tabless l.level h.level_short) (spaced l.name what h.name_short (value_tabless before l.kind l h.standing_short)))) in
    with_reading refused cols (line_reading before l.kind l) text (line_columns bit l what) tabless (without_end (decimal bit) (decimal width) (decimal l.level) l.name what (tabbed (line_reading before l.kind l)) text e)
    (columns (decimal bit) (decimal width) (decimal l.level) l.name what cols (decimal_solid bit h.bit_short) (decimal_solid width h.width_short) (decimal_solid l.level h.level_short) (value_solid before l.kind l h.standing_short) refl
    ∙ ap (λ (x : List ℕ). codes "{\"bit\":" ++ (decimal bit ++ (codes ",\"width\":" ++ (decimal width ++ (codes ",\"name\":" ++ (json_string l.name ++ (codes ",\"level\":" ++ (decimal l.level ++ (codes "," ++ x))))))))) (value_text_is before l.kind l h.standing_short))

pub plain_object_is : (refused : Bool) (bit : ℕ) (l : ExplainLine) (text : List ℕ) → HasShortColumns bit l → l.kind ≡ None → line_text bit l ≡ text ++ 10 ∷ [] → field_json refused text ≡ line_object None refused bit l
plain_object_is refused bit l text h k e = object_is None refused bit l text h (read_plain l.kind k ∙ e)
  where
    read_plain : (of : Option Kind) → of ≡ None → words_text bit (standing_bits l.bits l.standing) l.level l.name (line_value None of l ++ tabbed (line_reading None of l)) ≡ line_text bit l
    read_plain of same = subst (λ (o : Option Kind). words_text bit (standing_bits l.bits l.standing) l.level l.name (line_value None o l ++ tabbed (line_reading None o l)) ≡ line_text bit l) (sym same) (ap (words_text bit (standing_bits l.bits l.standing) l.level l.name) (append-nil (standing_text l.standing)))
