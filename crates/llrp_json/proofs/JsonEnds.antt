-- A text of JSON ends at one place: before what begins with no digit, none is the beginning of another one.
use Rattle.std.proofs.Common.{◌≡◌, inl, inr, ℕ, ◌==◌, true, false, List, [], ◌∷◌, ◌++◌, refl, sym, ap, ◌∙◌, arith, append_assoc}
use Rattle.std.specs.Prelude.{if◌then◌else◌}
use Rattle.std.specs.Char.{is_ascii_digit}
use Rattle.std.specs.List.{AllByRecursion, flat_map}
use Rattle.std.specs.Str.{all_ascii_digits}
use Rattle.hex.specs.Hex.{encode_lower, encode_with}
use Rattle.llrp_json.specs.Calls.JsonTexts.{IsCharacter, IsDigits, IsInteger, IsJson, IsString, Part, Value, Elements, Members, string, number, truth, empty_array, array, object, one_element, more_elements, one_member, more_members}
use Rattle.tag_uri.proofs.UriLemmas.{left, right}

-- the texts are the same, and so is what follows them
abbrev pub AreSame : List ℕ → List ℕ → List ℕ → List ℕ → Type 0
AreSame s t u v = (s ≡ t) × (u ≡ v)

-- two texts and what follows them, where the texts are these
pub turned : (s t p q u v : List ℕ) → s ≡ p → t ≡ q → s ++ u ≡ t ++ v → p ++ u ≡ q ++ v
turned s t p q u v a b e = ap (λ (x : List ℕ). x ++ u) (sym a) ∙ e ∙ ap (λ (x : List ℕ). x ++ v) b

-- lists whose first octets differ
pub apart : (a b : ℕ) (s t : List ℕ) → (a == b) ≡ false → a ∷ s ≡ b ∷ t → ⊥
apart a b s t differ e =
    let same : a ≡ b = cc in
    grind (arith, same, differ)

-- ---- strings

-- an escape of a control
abbrev control : ℕ → List ℕ
control c = 92 ∷ 117 ∷ 48 ∷ 48 ∷ encode_lower (c ∷ [])

-- what follows its first two octets
abbrev later : ℕ → List ℕ → List ℕ
later c u = 48 ∷ 48 ∷ (encode_lower (c ∷ []) ++ u)

pub character_ends : (s t u v : List ℕ) → IsCharacter s → IsCharacter t → s ++ u ≡ t ++ v → AreSame s t u v
unfolding encode_with
character_ends s t u v (inl a) (inl b) e =
    let f : a.0 ∷ u ≡ b.0 ∷ v = turned s t (a.0 ∷ []) (b.0 ∷ []) u v a.4 b.4 e in
    let first : a.0 ≡ b.0 = cc in
    (a.4 ∙ ap (λ (c : ℕ). c ∷ []) first ∙ sym b.4, cc)
character_ends s t u v (inl a) (inr (inl b)) e = absurd (a.3 (let f : a.0 ∷ u ≡ 92 ∷ 34 ∷ v = turned s t (a.0 ∷ []) (92 ∷ 34 ∷ []) u v a.4 b e in cc))
character_ends s t u v (inl a) (inr (inr (inl b))) e = absurd (a.3 (let f : a.0 ∷ u ≡ 92 ∷ 92 ∷ v = turned s t (a.0 ∷ []) (92 ∷ 92 ∷ []) u v a.4 b e in cc))
character_ends s t u v (inl a) (inr (inr (inr b))) e = absurd (a.3 (let f : a.0 ∷ u ≡ control b.0 ++ v = turned s t (a.0 ∷ []) (control b.0) u v a.4 b.2 e in cc))
character_ends s t u v (inr (inl a)) (inl b) e = absurd (b.3 (let f : 92 ∷ 34 ∷ u ≡ b.0 ∷ v = turned s t (92 ∷ 34 ∷ []) (b.0 ∷ []) u v a b.4 e in cc))
character_ends s t u v (inr (inl a)) (inr (inl b)) e = let f : 92 ∷ 34 ∷ u ≡ 92 ∷ 34 ∷ v = turned s t (92 ∷ 34 ∷ []) (92 ∷ 34 ∷ []) u v a b e in (a ∙ sym b, cc)
character_ends s t u v (inr (inl a)) (inr (inr (inl b))) e = absurd (let f : 92 ∷ 34 ∷ u ≡ 92 ∷ 92 ∷ v = turned s t (92 ∷ 34 ∷ []) (92 ∷ 92 ∷ []) u v a b e in apart 34 92 u v refl cc)
character_ends s t u v (inr (inl a)) (inr (inr (inr b))) e = absurd (let f : 92 ∷ 34 ∷ u ≡ control b.0 ++ v = turned s t (92 ∷ 34 ∷ []) (control b.0) u v a b.2 e in apart 34 117 u (later b.0 v) refl cc)
character_ends s t u v (inr (inr (inl a))) (inl b) e = absurd (b.3 (let f : 92 ∷ 92 ∷ u ≡ b.0 ∷ v = turned s t (92 ∷ 92 ∷ []) (b.0 ∷ []) u v a b.4 e in cc))
character_ends s t u v (inr (inr (inl a))) (inr (inl b)) e = absurd (let f : 92 ∷ 92 ∷ u ≡ 92 ∷ 34 ∷ v = turned s t (92 ∷ 92 ∷ []) (92 ∷ 34 ∷ []) u v a b e in apart 92 34 u v refl cc)
character_ends s t u v (inr (inr (inl a))) (inr (inr (inl b))) e = let f : 92 ∷ 92 ∷ u ≡ 92 ∷ 92 ∷ v = turned s t (92 ∷ 92 ∷ []) (92 ∷ 92 ∷ []) u v a b e in (a ∙ sym b, cc)
character_ends s t u v (inr (inr (inl a))) (inr (inr (inr b))) e = absurd (let f : 92 ∷ 92 ∷ u ≡ control b.0 ++ v = turned s t (92 ∷ 92 ∷ []) (control b.0) u v a b.2 e in apart 92 117 u (later b.0 v) refl cc)
character_ends s t u v (inr (inr (inr a))) (inl b) e = absurd (b.3 (let f : control a.0 ++ u ≡ b.0 ∷ v = turned s t (control a.0) (b.0 ∷ []) u v a.2 b.4 e in cc))
character_ends s t u v (inr (inr (inr a))) (inr (inl b)) e = absurd (let f : control a.0 ++ u ≡ 92 ∷ 34 ∷ v = turned s t (control a.0) (92 ∷ 34 ∷ []) u v a.2 b e in apart 117 34 (later a.0 u) v refl cc)
character_ends s t u v (inr (inr (inr a))) (inr (inr (inl b))) e = absurd (let f : control a.0 ++ u ≡ 92 ∷ 92 ∷ v = turned s t (control a.0) (92 ∷ 92 ∷ []) u v a.2 b e in apart 117 92 (later a.0 u) v refl cc)
character_ends s t u v (inr (inr (inr a))) (inr (inr (inr b))) e =
    let f : control a.0 ++ u ≡ control b.0 ++ v = turned s t (control a.0) (control b.0) u v a.2 b.2 e in
    let digits : encode_lower (a.0 ∷ []) ≡ encode_lower (b.0 ∷ []) = cc in
    (a.2 ∙ ap (λ (x : List ℕ). 92 ∷ 117 ∷ 48 ∷ 48 ∷ x) digits ∙ sym b.2, cc)

-- no character begins with a quote
pub no_quote : (s u x : List ℕ) → IsCharacter s → 34 ∷ x ≡ s ++ u → ⊥
no_quote s u x (inl a) e = a.2 (let f : 34 ∷ x ≡ a.0 ∷ u = e ∙ ap (λ (y : List ℕ). y ++ u) a.4 in cc)
no_quote s u x (inr (inl a)) e = apart 34 92 x (34 ∷ u) refl (e ∙ ap (λ (y : List ℕ). y ++ u) a)
no_quote s u x (inr (inr (inl a))) e = apart 34 92 x (92 ∷ u) refl (e ∙ ap (λ (y : List ℕ). y ++ u) a)
no_quote s u x (inr (inr (inr a))) e = apart 34 92 x (117 ∷ later a.0 u) refl (e ∙ ap (λ (y : List ℕ). y ++ u) a.2)

-- characters one after another
abbrev joined : List (List ℕ) → List ℕ
joined characters = flat_map (λ character. character) characters

characters_end : (cs ds : List (List ℕ)) (u v : List ℕ) → AllByRecursion IsCharacter cs → AllByRecursion IsCharacter ds → joined cs ++ (34 ∷ u) ≡ joined ds ++ (34 ∷ v) → AreSame (joined cs) (joined ds) u v
characters_end [] [] u v p q e = (refl, cc)
characters_end [] (d ∷ ds) u v p q e = absurd (no_quote d (joined ds ++ (34 ∷ v)) u q.0 (e ∙ append_assoc d (joined ds) (34 ∷ v)))
characters_end (c ∷ cs) [] u v p q e = absurd (no_quote c (joined cs ++ (34 ∷ u)) v p.0 (sym e ∙ append_assoc c (joined cs) (34 ∷ u)))
characters_end (c ∷ cs) (d ∷ ds) u v p q e =
    let one = character_ends c d (joined cs ++ (34 ∷ u)) (joined ds ++ (34 ∷ v)) p.0 q.0 (sym (append_assoc c (joined cs) (34 ∷ u)) ∙ e ∙ append_assoc d (joined ds) (34 ∷ v)) in
    let more = characters_end cs ds u v p.1 q.1 one.1 in
    (ap (λ (x : List ℕ). x ++ joined cs) one.0 ∙ ap (λ (x : List ℕ). d ++ x) more.0, more.1)

pub string_ends : (s t u v : List ℕ) → IsString s → IsString t → s ++ u ≡ t ++ v → AreSame s t u v
string_ends s t u v p q e =
    let a : List ℕ = joined p.characters in
    let b : List ℕ = joined q.characters in
    let whole : 34 ∷ ((a ++ 34 ∷ []) ++ u) ≡ 34 ∷ ((b ++ 34 ∷ []) ++ v) = turned s t (34 ∷ (a ++ 34 ∷ [])) (34 ∷ (b ++ 34 ∷ [])) u v p.text_is q.text_is e in
    let inner : (a ++ 34 ∷ []) ++ u ≡ (b ++ 34 ∷ []) ++ v = cc in
    let same = characters_end p.characters q.characters u v p.each q.each (sym (append_assoc a (34 ∷ []) u) ∙ inner ∙ append_assoc b (34 ∷ []) v) in
    (p.text_is ∙ ap (λ (x : List ℕ). 34 ∷ (x ++ 34 ∷ [])) same.0 ∙ sym q.text_is, same.1)

-- ---- numbers

-- what begins with no digit
abbrev pub Stops : List ℕ → Type 0
Stops u = (c : ℕ) × (rest : List ℕ) × (is_ascii_digit c ≡ false) × (u ≡ c ∷ rest)

no_digit : (c : ℕ) (x u : List ℕ) → is_ascii_digit c ≡ true → Stops u → c ∷ x ≡ u → ⊥
no_digit c x u digit stops e =
    let f : c ∷ x ≡ stops.0 ∷ stops.1 = e ∙ stops.3 in
    let same : c ≡ stops.0 = cc in
    let bad : true ≡ false = sym digit ∙ ap is_ascii_digit same ∙ stops.2 in
    cc

digits_end : (s t u v : List ℕ) → all_ascii_digits s ≡ true → all_ascii_digits t ≡ true → Stops u → Stops v → s ++ u ≡ t ++ v → AreSame s t u v
digits_end [] [] u v p q a b e = (refl, e)
digits_end [] (d ∷ t) u v p q a b e = absurd (no_digit d (t ++ v) u (left (is_ascii_digit d) (all_ascii_digits t) q) a (sym e))
digits_end (c ∷ s) [] u v p q a b e = absurd (no_digit c (s ++ u) v (left (is_ascii_digit c) (all_ascii_digits s) p) b e)
digits_end (c ∷ s) (d ∷ t) u v p q a b e =
    let first : c ≡ d = cc in
    let more = digits_end s t u v (right (is_ascii_digit c) (all_ascii_digits s) p) (right (is_ascii_digit d) (all_ascii_digits t) q) a b cc in
    (ap (λ (x : ℕ). x ∷ s) first ∙ ap (λ (x : List ℕ). d ∷ x) more.0, more.1)

-- digits have a first one
first_digit : (s : List ℕ) → IsDigits s → (c : ℕ) × (rest : List ℕ) × (is_ascii_digit c ≡ true) × (s ≡ c ∷ rest)
first_digit [] p = let some = p.1 in absurd (omega (arith, some))
first_digit (c ∷ s) p = (c, s, left (is_ascii_digit c) (all_ascii_digits s) p.0, refl)

no_minus : (s x y : List ℕ) → IsDigits s → s ++ x ≡ 45 ∷ y → ⊥
no_minus s x y p e =
    let d = first_digit s p in
    let f : d.0 ∷ (d.1 ++ x) ≡ 45 ∷ y = ap (λ (z : List ℕ). z ++ x) (sym d.3) ∙ e in
    let same : d.0 ≡ 45 = cc in
    let bad : true ≡ false = sym d.2 ∙ ap is_ascii_digit same in
    cc

integer_ends : (s t u v : List ℕ) → IsInteger s → IsInteger t → Stops u → Stops v → s ++ u ≡ t ++ v → AreSame s t u v
integer_ends s t u v (inl p) (inl q) a b e = digits_end s t u v p.0 q.0 a b e
integer_ends s t u v (inl p) (inr q) a b e = absurd (no_minus s u (q.0 ++ v) p (e ∙ ap (λ (x : List ℕ). x ++ v) q.2))
integer_ends s t u v (inr p) (inl q) a b e = absurd (no_minus t v (p.0 ++ u) q (sym e ∙ ap (λ (x : List ℕ). x ++ u) p.2))
integer_ends s t u v (inr p) (inr q) a b e =
    let f : 45 ∷ (p.0 ++ u) ≡ 45 ∷ (q.0 ++ v) = turned s t (45 ∷ p.0) (45 ∷ q.0) u v p.2 q.2 e in
    let same = digits_end p.0 q.0 u v p.1.0 q.1.0 a b cc in
    (p.2 ∙ ap (λ (x : List ℕ). 45 ∷ x) same.0 ∙ sym q.2, same.1)

-- ---- values

-- what a value is, by its first octet: something else, a string, true, an array or an object; the octet that closes an array is none
abbrev form_of : ℕ → ℕ
form_of c = if c == 34 then 1 else (if c == 116 then 2 else (if c == 91 then 3 else (if c == 123 then 4 else (if c == 93 then 5 else 0))))

abbrev form_at : List ℕ → ℕ
form_at [] = 5
form_at (c ∷ text) = form_of c

abbrev form : {s : List ℕ} → IsJson Value s → ℕ
form (string text a) = 1
form (number text a) = 0
form truth = 2
form empty_array = 3
form (array elements j) = 3
form (object members j) = 4

digit_form : (c : ℕ) → is_ascii_digit c ≡ true → form_of c ≡ 0
digit_form c e = grind arith

integer_form : (s u : List ℕ) → IsInteger s → form_at (s ++ u) ≡ 0
integer_form s u (inl p) = let d = first_digit s p in ap (λ (x : List ℕ). form_at (x ++ u)) d.3 ∙ digit_form d.0 d.2
integer_form s u (inr p) = ap (λ (x : List ℕ). form_at (x ++ u)) p.2

form_told : {s : List ℕ} (u : List ℕ) (j : IsJson Value s) → form_at (s ++ u) ≡ form j
form_told u (string text a) = ap (λ (x : List ℕ). form_at (x ++ u)) a.text_is
form_told u (number text a) = integer_form text u a
form_told u truth = refl
form_told u empty_array = refl
form_told u (array elements j) = refl
form_told u (object members j) = refl

-- values of two forms are apart
forms_same : {s t : List ℕ} (u v : List ℕ) (j : IsJson Value s) (k : IsJson Value t) → s ++ u ≡ t ++ v → form j ≡ form k
forms_same {s} {t} u v j k e = sym (form_told u j) ∙ ap form_at e ∙ form_told v k

value_opens : {s : List ℕ} (u x : List ℕ) (j : IsJson Value s) → s ++ u ≡ 93 ∷ x → form j ≡ 5
value_opens u x j e = sym (form_told u j) ∙ ap form_at e

-- no value begins with the octet that closes an array
pub opens : {s : List ℕ} (u x : List ℕ) (j : IsJson Value s) → s ++ u ≡ 93 ∷ x → ⊥
opens u x (string text a) e = let f = value_opens u x (string text a) e in omega (arith, f)
opens u x (number text a) e = let f = value_opens u x (number text a) e in omega (arith, f)
opens u x truth e = let f = value_opens u x truth e in omega (arith, f)
opens u x empty_array e = let f = value_opens u x empty_array e in omega (arith, f)
opens u x (array elements j) e = let f = value_opens u x (array elements j) e in omega (arith, f)
opens u x (object members j) e = let f = value_opens u x (object members j) e in omega (arith, f)

elements_open : {s : List ℕ} (u x : List ℕ) → IsJson Elements s → s ++ u ≡ 93 ∷ x → ⊥
elements_open u x (one_element value j) e = opens u x j e
elements_open u x (more_elements value elements j k) e = opens ((44 ∷ elements) ++ u) x j (sym (append_assoc value (44 ∷ elements) u) ∙ e)

-- what follows: no digit, the end of an array, or that of an object
abbrev pub Follows : Part → List ℕ → Type 0
Follows Value u = Stops u
Follows Elements u = (x : List ℕ) × (u ≡ 93 ∷ x)
Follows Members u = (x : List ℕ) × (u ≡ 125 ∷ x)

-- between two brackets
closed : (o c : ℕ) (s t u v : List ℕ) → (s ++ (c ∷ u) ≡ t ++ (c ∷ v) → AreSame s t (c ∷ u) (c ∷ v)) → (o ∷ (s ++ c ∷ [])) ++ u ≡ (o ∷ (t ++ c ∷ [])) ++ v → AreSame (o ∷ (s ++ c ∷ [])) (o ∷ (t ++ c ∷ [])) u v
closed o c s t u v same e =
    let inner : (s ++ c ∷ []) ++ u ≡ (t ++ c ∷ []) ++ v = cc in
    let p = same (sym (append_assoc s (c ∷ []) u) ∙ inner ∙ append_assoc t (c ∷ []) v) in
    (ap (λ (x : List ℕ). o ∷ (x ++ c ∷ [])) p.0, cc)

-- a first one and others after a comma
first_and_others : (s ss t ts u v : List ℕ) → AreSame s t ((44 ∷ ss) ++ u) ((44 ∷ ts) ++ v) → (ss ++ u ≡ ts ++ v → AreSame ss ts u v) → AreSame (s ++ (44 ∷ ss)) (t ++ (44 ∷ ts)) u v
first_and_others s ss t ts u v p same =
    let rest = p.1 in
    let q = same cc in
    (ap (λ (x : List ℕ). x ++ (44 ∷ ss)) p.0 ∙ ap (λ (x : List ℕ). t ++ (44 ∷ x)) q.0, q.1)

-- a name and a value
pub name_and_value : (n s o t u v : List ℕ) → IsString n → IsString o → (s ++ u ≡ t ++ v → AreSame s t u v) → (n ++ (58 ∷ s)) ++ u ≡ (o ++ (58 ∷ t)) ++ v → AreSame (n ++ (58 ∷ s)) (o ++ (58 ∷ t)) u v
name_and_value n s o t u v i h same e =
    let p = string_ends n o (58 ∷ (s ++ u)) (58 ∷ (t ++ v)) i h (sym (append_assoc n (58 ∷ s) u) ∙ e ∙ append_assoc o (58 ∷ t) v) in
    let rest = p.1 in
    let q = same cc in
    (ap (λ (x : List ℕ). x ++ (58 ∷ s)) p.0 ∙ ap (λ (x : List ℕ). o ++ (58 ∷ x)) q.0, q.1)

after_comma : (x : List ℕ) → Stops (44 ∷ x)
after_comma x = (44, x, refl, refl)

at_bracket : (u : List ℕ) → Follows Elements u → Stops u
at_bracket u a = (93, a.0, refl, a.1)

at_brace : (u : List ℕ) → Follows Members u → Stops u
at_brace u a = (125, a.0, refl, a.1)

-- a text and what follows it, where more was said to follow
parted : (s more t u v : List ℕ) → (s ++ more) ++ u ≡ t ++ v → s ++ (more ++ u) ≡ t ++ v
parted s more t u v e = sym (append_assoc s more u) ∙ e

ends : {p : Part} {s t : List ℕ} (u v : List ℕ) → IsJson p s → IsJson p t → Follows p u → Follows p v → s ++ u ≡ t ++ v → AreSame s t u v
ends u v (string s j) (string t k) a b e = string_ends s t u v j k e
ends u v (number s j) (number t k) a b e = integer_ends s t u v j k a b e
ends u v truth truth a b e = (refl, cc)
ends u v empty_array empty_array a b e = (refl, cc)
ends u v (array s j) (array t k) a b e = closed 91 93 s t u v (λ f. ends (93 ∷ u) (93 ∷ v) j k (u, refl) (v, refl) f) e
ends u v (object s j) (object t k) a b e = closed 123 125 s t u v (λ f. ends (125 ∷ u) (125 ∷ v) j k (u, refl) (v, refl) f) e
ends u v empty_array (array t k) a b e = absurd (elements_open (93 ∷ v) u k (let inner : (t ++ 93 ∷ []) ++ v ≡ 93 ∷ u = cc in parted t (93 ∷ []) [] v (93 ∷ u) inner))
ends u v (array s j) empty_array a b e = absurd (elements_open (93 ∷ u) v j (let inner : (s ++ 93 ∷ []) ++ u ≡ 93 ∷ v = cc in parted s (93 ∷ []) [] u (93 ∷ v) inner))
ends u v (one_element s j) (one_element t k) a b e = ends u v j k (at_bracket u a) (at_bracket v b) e
ends u v (one_element s j) (more_elements t ts k l) a b e =
    let p = ends u (44 ∷ (ts ++ v)) j k (at_bracket u a) (after_comma (ts ++ v)) (sym (parted t (44 ∷ ts) s v u (sym e))) in
    absurd (apart 93 44 a.0 (ts ++ v) refl (sym a.1 ∙ p.1))
ends u v (more_elements s ss j l) (one_element t k) a b e =
    let p = ends (44 ∷ (ss ++ u)) v j k (after_comma (ss ++ u)) (at_bracket v b) (parted s (44 ∷ ss) t u v e) in
    absurd (apart 93 44 b.0 (ss ++ u) refl (sym b.1 ∙ sym p.1))
ends u v (more_elements s ss j l) (more_elements t ts k m) a b e =
    let p = ends (44 ∷ (ss ++ u)) (44 ∷ (ts ++ v)) j k (after_comma (ss ++ u)) (after_comma (ts ++ v)) (parted s (44 ∷ ss) t u (44 ∷ (ts ++ v)) (e ∙ append_assoc t (44 ∷ ts) v)) in
    first_and_others s ss t ts u v p (λ f. ends u v l m a b f)
ends u v (one_member n s i j) (one_member o t h k) a b e = name_and_value n s o t u v i h (λ f. ends u v j k (at_brace u a) (at_brace v b) f) e
ends u v (one_member n s i j) (more_members o t ts h k l) a b e =
    let p = name_and_value n s o t u (44 ∷ (ts ++ v)) i h (λ f. ends u (44 ∷ (ts ++ v)) j k (at_brace u a) (after_comma (ts ++ v)) f) (sym (parted (o ++ (58 ∷ t)) (44 ∷ ts) (n ++ (58 ∷ s)) v u (sym e))) in
    absurd (apart 125 44 a.0 (ts ++ v) refl (sym a.1 ∙ p.1))
ends u v (more_members n s ss i j l) (one_member o t h k) a b e =
    let p = name_and_value n s o t (44 ∷ (ss ++ u)) v i h (λ f. ends (44 ∷ (ss ++ u)) v j k (after_comma (ss ++ u)) (at_brace v b) f) (parted (n ++ (58 ∷ s)) (44 ∷ ss) (o ++ (58 ∷ t)) u v e) in
    absurd (apart 125 44 b.0 (ss ++ u) refl (sym b.1 ∙ sym p.1))
ends u v (more_members n s ss i j l) (more_members o t ts h k m) a b e =
    let p = name_and_value n s o t (44 ∷ (ss ++ u)) (44 ∷ (ts ++ v)) i h (λ f. ends (44 ∷ (ss ++ u)) (44 ∷ (ts ++ v)) j k (after_comma (ss ++ u)) (after_comma (ts ++ v)) f) (parted (n ++ (58 ∷ s)) (44 ∷ ss) (o ++ (58 ∷ t)) u (44 ∷ (ts ++ v)) (e ∙ append_assoc (o ++ (58 ∷ t)) (44 ∷ ts) v)) in
    first_and_others (n ++ (58 ∷ s)) ss (o ++ (58 ∷ t)) ts u v p (λ f. ends u v l m a b f)
ends u v j k a b e = absurd (let f = forms_same u v j k e in omega (arith, f))

-- of two values that begin one text, and that something follows which begins with no digit
pub values_end : (s t u v : List ℕ) → IsJson Value s → IsJson Value t → Stops u → Stops v → s ++ u ≡ t ++ v → AreSame s t u v
values_end s t u v j k a b e = ends u v j k a b e
