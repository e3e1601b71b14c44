-- How the object of a frame grows.
use Rattle.std.proofs.Common.{◌≡◌, ℕ, ◌+◌, ◌-◌, ◌<◌, ◌≤◌, Bool, true, false, List, [], ◌∷◌, ◌++◌, length, length-drop, inl, inr, take, drop, get_or, refl, sym, ap, subst, ◌∙◌, arith, append_assoc}
use Rattle.std.specs.Prelude.{◌==◌, ◌⊎◌, ltb, codes, decimal, not, Result, Ok, Err, OnOk}
use Rattle.std.specs.List.{flat_map, position_or_len, before_first, after_first, before_last, after_last, suffix_len}
use Rattle.std.proofs.lemmas.List.{append-nil, take_more, drop_more, drop_all, take_all}
use Rattle.std.proofs.lemmas.List.Sums.{position_or_len_is, suffix_len_is, fails_before_first}
use Rattle.std.proofs.lemmas.List.Splits.{slice_split_first, slice_split_none}
use Rattle.std.proofs.lemmas.Bool.{ltb-true, ltb-false}
use Rattle.std.proofs.lemmas.Grind.{flat_map-append}
use Rattle.memchr.specs.Find.{NoneAfter, NoneBefore, Nowhere, Passes, is_byte}
use Rattle.llrp_explain.specs.Calls.ExplainJson.{columns_json, fault_json, field_json, first_word, frame_json, is_colon, is_comma, is_space, json_string, kind_of_line, line_json, lines_json, lines_of, other_words, separator, standing_json, string_octet}
use Rattle.llrp_explain.specs.declared.json.LineKind.{LineKind}
use Rattle.llrp_explain.specs.declared.json.LineKind.TheVariants.{Field, Heading, Fault, Other}

-- ---- strings

pub inside_none : (old : List ℕ) → old ≡ old ++ flat_map string_octet []
inside_none old = sym (append-nil old)

pub inside_more : (old now new text : List ℕ) (i : ℕ) → i < length text → now ≡ old ++ flat_map string_octet (take i text) → new ≡ now ++ string_octet (get_or text i 0) → new ≡ old ++ flat_map string_octet (take (i + 1) text)
inside_more old now new text i lt so more =
    more ∙ ap (λ (x : List ℕ). x ++ string_octet (get_or text i 0)) so ∙ append_assoc old (flat_map string_octet (take i text)) (string_octet (get_or text i 0))
    ∙ ap (λ (x : List ℕ). old ++ x) (ap (λ (x : List ℕ). flat_map string_octet (take i text) ++ x) (sym (append-nil (string_octet (get_or text i 0)))) ∙ sym (flat_map-append string_octet (take i text) (get_or text i 0 ∷ [])) ∙ ap (λ (x : List ℕ). flat_map string_octet x) (sym (take_more text i 0 lt)))

-- ---- where a text is cut

not_true : (b : Bool) → (b ≡ true → ⊥) → b ≡ false
not_true true h = absurd (h refl)
not_true false h = refl

not_false : (b : Bool) → (b ≡ true → ⊥) → not b ≡ true
not_false true h = absurd (h refl)
not_false false h = refl

not_of : (b : Bool) → b ≡ true → not b ≡ false
not_of true h = refl
not_of false h = cc

abbrev is : ℕ → ℕ → Bool
is c x = x == c

no_first : (c : ℕ) (xs : List ℕ) → Nowhere (Passes (is_byte c) xs) 0 (length xs) → position_or_len (λ x. x == c) xs ≡ length xs
no_first c xs none = position_or_len_is (λ x. x == c) xs (length xs) 0 (omega arith) (λ k lt. not_true (get_or xs k 0 == c) (λ e. none k (omega arith) lt e)) (λ lt. absurd (omega (arith, lt)))

first_at : (c : ℕ) (xs : List ℕ) (k : ℕ) → NoneBefore (Passes (is_byte c) xs) 0 (length xs) k → Passes (is_byte c) xs k → position_or_len (λ x. x == c) xs ≡ k
first_at c xs k none here = position_or_len_is (λ x. x == c) xs k 0 (let h = none.high in omega (arith, h)) (λ j lt. not_true (get_or xs j 0 == c) (λ e. none.before j (omega arith) lt e)) (λ lt. here)

pub uncut_front : (c : ℕ) (xs a : List ℕ) → Nowhere (Passes (is_byte c) xs) 0 (length xs) → a ≡ take (length xs) xs → a ≡ before_first (λ x. x == c) xs
uncut_front c xs a none e = e ∙ ap (λ (n : ℕ). take n xs) (sym (no_first c xs none))

pub uncut_back : (c : ℕ) (xs b : List ℕ) → Nowhere (Passes (is_byte c) xs) 0 (length xs) → b ≡ drop (length xs) xs → b ≡ after_first (λ x. x == c) xs
uncut_back c xs b none e = e ∙ drop_all (length xs) xs (omega arith) ∙ sym (drop_all (length xs + 1) xs (omega arith)) ∙ ap (λ (n : ℕ). drop (n + 1) xs) (sym (no_first c xs none))

drop_one : (xs : List ℕ) (k : ℕ) → k < length xs → drop 1 (drop k xs) ≡ drop (k + 1) xs
drop_one xs k lt = ap (λ (x : List ℕ). drop 1 x) (drop_more xs k 0 lt)

pub cut_front : (c : ℕ) (xs a : List ℕ) (k : ℕ) → NoneBefore (Passes (is_byte c) xs) 0 (length xs) k → Passes (is_byte c) xs k → a ≡ take k xs → a ≡ before_first (λ x. x == c) xs
cut_front c xs a k none here e = e ∙ ap (λ (n : ℕ). take n xs) (sym (first_at c xs k none here))

pub cut_back : (c : ℕ) (xs b d : List ℕ) (k : ℕ) → NoneBefore (Passes (is_byte c) xs) 0 (length xs) k → Passes (is_byte c) xs k → b ≡ drop k xs → d ≡ drop 1 b → d ≡ after_first (λ x. x == c) xs
cut_back c xs b d k none here e f = f ∙ ap (λ (x : List ℕ). drop 1 x) e ∙ drop_one xs k none.high ∙ ap (λ (n : ℕ). drop (n + 1) xs) (sym (first_at c xs k none here))

no_last : (c : ℕ) (xs : List ℕ) → Nowhere (Passes (is_byte c) xs) 0 (length xs) → suffix_len (λ x. not (x == c)) xs ≡ length xs - 0
no_last c xs none = suffix_len_is (λ x. not (x == c)) xs 0 0 (omega arith) (λ k le lt. not_false (get_or xs k 0 == c) (λ e. none k le lt e)) (λ lt. absurd (omega (arith, lt)))

last_at : (c : ℕ) (xs : List ℕ) (k : ℕ) → NoneAfter (Passes (is_byte c) xs) 0 (length xs) k → Passes (is_byte c) xs k → suffix_len (λ x. not (x == c)) xs ≡ length xs - (k + 1)
last_at c xs k none here =
    let h = none.high in
    let same : k + 1 - 1 ≡ k = omega arith in
    suffix_len_is (λ x. not (x == c)) xs (k + 1) 0 (omega (arith, h)) (λ j le lt. not_false (get_or xs j 0 == c) (λ e. none.after j le lt e)) (λ lt. subst (λ (n : ℕ). not (get_or xs n 0 == c) ≡ false) (sym same) (not_of (get_or xs k 0 == c) here))

pub uncut_name : (c : ℕ) (xs a : List ℕ) → Nowhere (Passes (is_byte c) xs) 0 (length xs) → a ≡ take 0 xs → a ≡ before_last (λ x. x == c) xs
uncut_name c xs a none e = (let l = no_last c xs none in e ∙ ap (λ (n : ℕ). take n xs) (let z : 0 ≡ length xs - suffix_len (λ x. not (x == c)) xs - 1 = omega (arith, l) in z))

pub uncut_value : (c : ℕ) (xs b : List ℕ) → Nowhere (Passes (is_byte c) xs) 0 (length xs) → b ≡ drop 0 xs → b ≡ after_last (λ x. x == c) xs
uncut_value c xs b none e = (let l = no_last c xs none in e ∙ ap (λ (n : ℕ). drop n xs) (let z : 0 ≡ length xs - suffix_len (λ x. not (x == c)) xs = omega (arith, l) in z))

pub cut_name : (c : ℕ) (xs a : List ℕ) (k : ℕ) → NoneAfter (Passes (is_byte c) xs) 0 (length xs) k → Passes (is_byte c) xs k → a ≡ take k xs → a ≡ before_last (λ x. x == c) xs
cut_name c xs a k none here e = (let l = last_at c xs k none here in let h = none.high in e ∙ ap (λ (n : ℕ). take n xs) (let z : k ≡ length xs - suffix_len (λ x. not (x == c)) xs - 1 = omega (arith, l, h) in z))

pub cut_value : (c : ℕ) (xs b d : List ℕ) (k : ℕ) → NoneAfter (Passes (is_byte c) xs) 0 (length xs) k → Passes (is_byte c) xs k → b ≡ drop k xs → d ≡ drop 1 b → d ≡ after_last (λ x. x == c) xs
cut_value c xs b d k none here e f = (let l = last_at c xs k none here in let h = none.high in f ∙ ap (λ (x : List ℕ). drop 1 x) e ∙ drop_one xs k h ∙ ap (λ (n : ℕ). drop n xs) (let z : k + 1 ≡ length xs - suffix_len (λ x. not (x == c)) xs = omega (arith, l, h) in z))

-- ---- what was appended

pub on_ok : {T E : Type 0} (r : Result T E) (P Q : Type 0) → OnOk r P → (P → Q) → OnOk r Q
on_ok (Ok v) P Q h f = f h
on_ok (Err x) P Q h f = tt

-- ---- a field

abbrev object : (bit width name level value : List ℕ) → List ℕ
object bit width name level value = codes "{\"bit\":" ++ (bit ++ (codes ",\"width\":" ++ (width ++ (codes ",\"name\":" ++ (json_string name ++ (codes ",\"level\":" ++ (level ++ (codes "," ++ standing_json value))))))))

field_joined : (j a b c d e f g h i k : List ℕ) → (((((j ++ (a ++ b)) ++ (c ++ d)) ++ (e ++ f)) ++ (g ++ h)) ++ i) ++ k ≡ j ++ (a ++ (b ++ (c ++ (d ++ (e ++ (f ++ (g ++ (h ++ (i ++ k)))))))))
field_joined j a b c d e f g h i k = simp append_assoc

pub field_text : (j0 j1 j2 j3 j4 j5 j6 line bit after_bit width after_width level after_level name value : List ℕ) → bit ≡ first_word line → after_bit ≡ other_words line → width ≡ first_word after_bit → after_width ≡ other_words after_bit → level ≡ first_word after_width → after_level ≡ other_words after_width → name ≡ before_last is_space after_level → value ≡ after_last is_space after_level
    → j1 ≡ j0 ++ (codes "{\"bit\":" ++ bit) → j2 ≡ j1 ++ (codes ",\"width\":" ++ width) → j3 ≡ j2 ++ (codes ",\"name\":" ++ json_string name) → j4 ≡ j3 ++ (codes ",\"level\":" ++ level) → j5 ≡ j4 ++ codes "," → j6 ≡ j5 ++ standing_json value → j6 ≡ j0 ++ columns_json line
unfolding columns_json
field_text j0 j1 j2 j3 j4 j5 j6 line bit after_bit width after_width level after_level name value b ab w aw l al n v e1 e2 e3 e4 e5 e6 =
    let parts : j6 ≡ j0 ++ object bit width name level value = rw (e6, e5, e4, e3, e2, e1) (field_joined j0 (codes "{\"bit\":") bit (codes ",\"width\":") width (codes ",\"name\":") (json_string name) (codes ",\"level\":") level (codes ",") (standing_json value)) in
    let aw2 : after_width ≡ other_words (other_words line) = aw ∙ ap other_words ab in
    let al2 : after_level ≡ other_words (other_words (other_words line)) = al ∙ ap other_words aw2 in
    let w2 : width ≡ first_word (other_words line) = w ∙ ap first_word ab in
    let l2 : level ≡ first_word (other_words (other_words line)) = l ∙ ap first_word aw2 in
    let n2 : name ≡ before_last is_space (other_words (other_words (other_words line))) = n ∙ ap (λ (x : List ℕ). before_last is_space x) al2 in
    let v2 : value ≡ after_last is_space (other_words (other_words (other_words line))) = v ∙ ap (λ (x : List ℕ). after_last is_space x) al2 in
    parts ∙ (λ k. j0 ++ object (b k) (w2 k) (n2 k) (l2 k) (v2 k))

-- ---- a fault

abbrev said : (bit octet reason text : List ℕ) → List ℕ
said bit octet reason text = codes "{\"bit\":" ++ (bit ++ (codes ",\"octet\":" ++ (octet ++ (codes ",\"reason\":" ++ (json_string reason ++ (codes ",\"text\":" ++ (json_string text ++ codes "}")))))))

fault_joined : (j a b c d e f g h i : List ℕ) → ((((j ++ (a ++ b)) ++ (c ++ d)) ++ (e ++ f)) ++ (g ++ h)) ++ i ≡ j ++ (a ++ (b ++ (c ++ (d ++ (e ++ (f ++ (g ++ (h ++ i))))))))
fault_joined j a b c d e f g h i = simp append_assoc

pub fault_object : (j0 j1 j2 j3 j4 j5 line place bit after_bit later octet after_octet sentence reason after_reason text : List ℕ) → place ≡ drop 13 line → bit ≡ before_first is_comma place → after_bit ≡ after_first is_comma place → later ≡ drop 7 after_bit → octet ≡ before_first is_colon later → after_octet ≡ after_first is_colon later → sentence ≡ drop 1 after_octet → reason ≡ before_first is_colon sentence → after_reason ≡ after_first is_colon sentence → text ≡ drop 1 after_reason
    → j1 ≡ j0 ++ (codes "{\"bit\":" ++ bit) → j2 ≡ j1 ++ (codes ",\"octet\":" ++ octet) → j3 ≡ j2 ++ (codes ",\"reason\":" ++ json_string reason) → j4 ≡ j3 ++ (codes ",\"text\":" ++ json_string text) → j5 ≡ j4 ++ codes "}" → j5 ≡ j0 ++ fault_json line
unfolding fault_json
fault_object j0 j1 j2 j3 j4 j5 line place bit after_bit later octet after_octet sentence reason after_reason text p b ab la o ao s r ar t e1 e2 e3 e4 e5 =
    let parts : j5 ≡ j0 ++ said bit octet reason text = rw (e5, e4, e3, e2, e1) (fault_joined j0 (codes "{\"bit\":") bit (codes ",\"octet\":") octet (codes ",\"reason\":") (json_string reason) (codes ",\"text\":") (json_string text) (codes "}")) in
    let b2 : bit ≡ before_first is_comma (drop 13 line) = b ∙ ap (λ (x : List ℕ). before_first is_comma x) p in
    let la2 : later ≡ drop 7 (after_first is_comma (drop 13 line)) = la ∙ ap (λ (x : List ℕ). drop 7 x) (ab ∙ ap (λ (x : List ℕ). after_first is_comma x) p) in
    let o2 : octet ≡ before_first is_colon (drop 7 (after_first is_comma (drop 13 line))) = o ∙ ap (λ (x : List ℕ). before_first is_colon x) la2 in
    let s2 : sentence ≡ drop 1 (after_first is_colon (drop 7 (after_first is_comma (drop 13 line)))) = s ∙ ap (λ (x : List ℕ). drop 1 x) (ao ∙ ap (λ (x : List ℕ). after_first is_colon x) la2) in
    let r2 : reason ≡ before_first is_colon (drop 1 (after_first is_colon (drop 7 (after_first is_comma (drop 13 line))))) = r ∙ ap (λ (x : List ℕ). before_first is_colon x) s2 in
    let t2 : text ≡ drop 1 (after_first is_colon (drop 1 (after_first is_colon (drop 7 (after_first is_comma (drop 13 line)))))) = t ∙ ap (λ (x : List ℕ). drop 1 x) (ar ∙ ap (λ (x : List ℕ). after_first is_colon x) s2) in
    parts ∙ (λ k. j0 ++ said (b2 k) (o2 k) (r2 k) (t2 k))

-- ---- lines

same_later : (k : LineKind) (first refused : Bool) (line : List ℕ) (a b : Bool → Bool → List ℕ) → ((x y : Bool) → a x y ≡ b x y) → line_json k first refused line a ≡ line_json k first refused line b
same_later Field first refused line a b h = ap (λ (t : List ℕ). separator first ++ (field_json refused line ++ t)) (h false refused)
same_later Heading first refused line a b h = h first true
same_later Fault first refused line a b h = refl
same_later Other first refused line a b h = h first refused

no_line : (x y : Bool) → lines_json [] x y ≡ lines_json ([] ∷ []) x y
unfolding lines_json
no_line x y = refl

abbrev is_end : ℕ → Bool
is_end c = c == 10

last_line : (rest : List ℕ) (first refused : Bool) → length rest ≤ position_or_len is_end rest → lines_json (lines_of rest) first refused ≡ line_json (kind_of_line (before_first is_end rest)) first refused (before_first is_end rest) (lines_json (lines_of (after_first is_end rest)))
unfolding lines_json
last_line rest first refused le =
    let whole : lines_of rest ≡ rest ∷ [] = slice_split_none is_end rest (λ k d lt. fails_before_first is_end rest k d (omega (arith, lt, le))) in
    let front : before_first is_end rest ≡ rest = take_all (position_or_len is_end rest) rest le in
    let back : after_first is_end rest ≡ [] = drop_all (position_or_len is_end rest + 1) rest (omega (arith, le)) in
    ap (λ (ls : List (List ℕ)). lines_json ls first refused) whole ∙ same_later (kind_of_line rest) first refused rest (lines_json []) (lines_json (lines_of [])) no_line
    ∙ sym (λ k. line_json (kind_of_line (front k)) first refused (front k) (lines_json (lines_of (back k))))

ended_line : (rest : List ℕ) (first refused : Bool) → position_or_len is_end rest < length rest → lines_json (lines_of rest) first refused ≡ line_json (kind_of_line (before_first is_end rest)) first refused (before_first is_end rest) (lines_json (lines_of (after_first is_end rest)))
unfolding lines_json
ended_line rest first refused lt = ap (λ (ls : List (List ℕ)). lines_json ls first refused) (slice_split_first is_end rest 0 lt)

lt_or_le : (a b : ℕ) → (a < b) ⊎ (b ≤ a)
lt_or_le a b = elim (ltb a b) as (λ x. ltb a b ≡ x → (a < b) ⊎ (b ≤ a)) [ true ↦ λ e. inl (ltb-true a b e) | false ↦ λ e. inr (ltb-false a b e) ] refl

-- the first line of a text, and those after it
pub next_line : (rest line later : List ℕ) (first refused : Bool) → line ≡ before_first is_end rest → later ≡ after_first is_end rest → lines_json (lines_of rest) first refused ≡ line_json (kind_of_line line) first refused line (lines_json (lines_of later))
next_line rest line later first refused e f =
    (elim (lt_or_le (position_or_len is_end rest) (length rest)) [ inl lt ↦ ended_line rest first refused lt | inr le ↦ last_line rest first refused le ])
    ∙ sym (λ k. line_json (kind_of_line (e k)) first refused (e k) (lines_json (lines_of (f k))))

-- what is left of a text that is not empty is shorter
pub later_shorter : (rest later : List ℕ) → 0 < length rest → later ≡ after_first is_end rest → length later < length rest
later_shorter rest later some f =
    let short = length-drop (position_or_len is_end rest + 1) rest in
    let same = ap (λ (x : List ℕ). length x) f in
    omega (arith, some, short, same)

-- where no line is left
pub end_lines : (rest : List ℕ) (first refused : Bool) → length rest ≡ 0 → lines_json (lines_of rest) first refused ≡ codes "]}\n"
unfolding lines_json
end_lines [] first refused e = refl
end_lines (c ∷ rest) first refused e = absurd (omega (arith, e))

-- ---- a frame

frame_joined : (j a b c d e f : List ℕ) → (((((j ++ a) ++ b) ++ c) ++ d) ++ e) ++ f ≡ j ++ (a ++ (b ++ (c ++ (d ++ (e ++ f)))))
frame_joined j a b c d e f = simp append_assoc

pub frame_object : (j0 j1 j2 j3 j4 j5 j6 : List ℕ) (number octets : ℕ) (text : List ℕ) → j1 ≡ j0 ++ codes "{\"frame\":" → j2 ≡ j1 ++ decimal number → j3 ≡ j2 ++ codes ",\"octets\":" → j4 ≡ j3 ++ decimal octets → j5 ≡ j4 ++ codes ",\"fields\":[" → j6 ≡ j5 ++ lines_json (lines_of text) true false → j6 ≡ j0 ++ frame_json number octets text
unfolding frame_json
frame_object j0 j1 j2 j3 j4 j5 j6 number octets text e1 e2 e3 e4 e5 e6 = rw (e6, e5, e4, e3, e2, e1) (frame_joined j0 (codes "{\"frame\":") (decimal number) (codes ",\"octets\":") (decimal octets) (codes ",\"fields\":[") (lines_json (lines_of text) true false))
