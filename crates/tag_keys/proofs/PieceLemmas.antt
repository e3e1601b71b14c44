-- Lists of digits, and the pieces of a key.
use Rattle.std.proofs.Common.{◌≡◌, ℕ, zero, suc, ◌+◌, ◌-◌, ◌<◌, ◌≤◌, Bool, true, false, not, cond, List, [], ◌∷◌, ◌++◌, length, get_or, take, drop, refl, sym, ap, ◌∙◌, subst, arith, inl, inr, length-append, append_assoc}
use Rattle.std.specs.Str.{all_ascii_digits, IsAscii, IsUtf8, IsCharBoundary}
use Rattle.std.specs.Char.{is_ascii_digit}
use Rattle.std.proofs.lemmas.Str.{IsCharBoundary-after_ascii}
use Rattle.std.proofs.lemmas.Bool.{eqb-true, cases_Bool, and_parts, true≢false}
use Rattle.std.proofs.lemmas.List.{take_at, drop_at, append_cancel_left, take-append-drop, get_or_at, get_or-take}
use Rattle.std.proofs.lemmas.Str.Parse.{tells_all_ascii_digits}
use Rattle.tag_uri.specs.Calls.Decimal.{AreDigits}
use Rattle.tag_uri.specs.TagText.{is_strange, tag_start}
use Rattle.tag_uri.proofs.ComponentLemmas.{digits_of_not_strange, not_strange as none_strange}
use Rattle.tag_uri.proofs.TextLaws.{AllOfDigits}
use Rattle.tag_keys.specs.CheckDigit.{with_check_digit}
use Rattle.tag_keys.specs.KeyText.{SerialForm, Absent, Joined, Marked, MarkedUnlessZero, is_zero, serial_text, key_digits}
use Rattle.tag_keys.specs.KeyFaults.{AreSerials}

-- two lists with as long a front
pub at_seam : (x y a b : List ℕ) → x ++ a ≡ y ++ b → length x ≡ length y → (x ≡ y) × (a ≡ b)
at_seam x y a b e l = (
  sym (take_at x a (length x) refl) ∙ ap (take (length x)) e ∙ take_at y b (length x) (sym l),
  sym (drop_at x a (length x) refl) ∙ ap (drop (length x)) e ∙ drop_at y b (length x) (sym l),
)

pub digits_both : (x y : List ℕ) → AreDigits x → AreDigits y → AreDigits (x ++ y)
digits_both [] y h k = k
digits_both (c ∷ cs) y h k = (h.0, digits_both cs y h.1 k)

pub digits_parts : (x y : List ℕ) → AreDigits (x ++ y) → AreDigits x × AreDigits y
digits_parts [] y h = (tt, h)
digits_parts (c ∷ cs) y h = let ih = digits_parts cs y h.1 in ((h.0, ih.0), ih.1)

pub digits_taken : (n : ℕ) (x : List ℕ) → AreDigits x → AreDigits (take n x)
digits_taken n x h = (digits_parts (take n x) (drop n x) (subst AreDigits (sym (take-append-drop n x)) h)).0

pub digits_dropped : (n : ℕ) (x : List ℕ) → AreDigits x → AreDigits (drop n x)
digits_dropped n x h = (digits_parts (take n x) (drop n x) (subst AreDigits (sym (take-append-drop n x)) h)).1

pub digits_pass : (x : List ℕ) → AreDigits x → all_ascii_digits x ≡ true
digits_pass [] h = tells_all_ascii_digits.empty
digits_pass (c ∷ cs) h = tells_all_ascii_digits.more c cs h.0 (digits_pass cs h.1)

pub not_strange : (x : List ℕ) → AreDigits x → is_strange x ≡ false
not_strange x h = ap not (digits_pass x h)

pub digits_ascii : (x : List ℕ) → AreDigits x → IsAscii x
digits_ascii [] h i = omega arith
digits_ascii (c ∷ cs) h zero = let r = h.0.1 in omega arith
digits_ascii (c ∷ cs) h (suc i) = digits_ascii cs h.1 i

pub length-key_digits : (n : ℕ) (c r : List ℕ) → length (key_digits n c r) ≡ length c + length r
length-key_digits n c r =
    let whole : length (take n r) + length (drop n r) ≡ length r = sym (length-append (take n r) (drop n r)) ∙ ap length (take-append-drop n r) in
    omega (arith, whole, length-append (take n r) (c ++ drop n r), length-append c (drop n r))

pub length-with_check : (ds : List ℕ) → length (with_check_digit ds) ≡ length ds + 1
length-with_check ds = length-append ds _

-- what the test of each character says
passes : (x : List ℕ) (i : ℕ) → all_ascii_digits x ≡ true → i < length x → is_ascii_digit (get_or x i 0) ≡ true
passes [] i h l = absurd (omega arith)
passes (c ∷ cs) zero h l = (and_parts _ _ h).0
passes (c ∷ cs) (suc i) h l = passes cs i (and_parts _ _ h).1 (omega arith)

pub digit_passes : (x : List ℕ) (i : ℕ) → AreDigits x → i < length x → is_ascii_digit (get_or x i 0) ≡ true
digit_passes x i h l = passes x i (digits_pass x h) l

pub digits_of_passes : (x : List ℕ) → ((k : ℕ) → k < length x → is_ascii_digit (get_or x k 0) ≡ true) → AreDigits x
digits_of_passes x h = digits_of_not_strange x (none_strange x h)

pub strange_unless : (x : List ℕ) → (AreDigits x → ⊥) → is_strange x ≡ true
strange_unless x h = elim (cases_Bool (is_strange x)) [ inl e ↦ e | inr e ↦ absurd (h (digits_of_not_strange x e)) ]

-- digits may be cut off the front of a text
pub behind_digits : (text : List ℕ) (n : ℕ) → IsUtf8 text → 0 < n → n ≤ length text → AreDigits (take n text) → IsCharBoundary text n
behind_digits text n u some within h =
    let before : n - 1 < n = omega arith in
    let low : get_or text (n - 1) 0 < 128 = subst (λ (c : ℕ). c < 128) (get_or-take n text (n - 1) 0 before) (digits_ascii (take n text) h (n - 1)) in
    let here : n - 1 + 1 ≡ n = omega arith in
    subst (IsCharBoundary text) here (IsCharBoundary-after_ascii text (n - 1) u (omega arith) low)

-- ---- the place behind a scheme's name

module _ (text name rest : List ℕ) (e : text ≡ tag_start ++ (name ++ 58 ∷ rest)) where
  front : List ℕ
  front = tag_start ++ name

  turned : text ≡ (tag_start ++ name) ++ 58 ∷ rest
  turned = e ∙ sym (append_assoc tag_start name (58 ∷ rest))

  long : length (tag_start ++ name) ≡ 12 + length name
  long = length-append tag_start name

  whole : length text ≡ 12 + length name + 1 + length rest
  whole = let l : length text ≡ length ((tag_start ++ name) ++ 58 ∷ rest) = ap length turned in omega (arith, l, long, length-append (tag_start ++ name) (58 ∷ rest))

  colon : get_or text (12 + length name) 0 ≡ 58
  colon = ap (λ (t : List ℕ). get_or t (12 + length name) 0) turned ∙ get_or_at (tag_start ++ name) 58 rest 0 (12 + length name) long

  pub behind_name : IsUtf8 text → IsCharBoundary text (12 + length name + 1)
  behind_name u = IsCharBoundary-after_ascii text (12 + length name) u (omega (arith, whole)) (omega (arith, colon))

  pub behind_is : drop (12 + length name + 1) text ≡ rest
  behind_is =
      let l : length ((tag_start ++ name) ++ 58 ∷ []) ≡ 12 + length name + 1 = omega (arith, long, length-append (tag_start ++ name) (58 ∷ [])) in
      ap (drop (12 + length name + 1)) (turned ∙ sym (append_assoc (tag_start ++ name) (58 ∷ []) rest)) ∙ drop_at ((tag_start ++ name) ++ 58 ∷ []) rest (12 + length name + 1) l

-- ---- serial numbers

pub zero_is : (x : List ℕ) → is_zero x ≡ true → x ≡ 48 ∷ []
zero_is [] h = cc
zero_is (c ∷ []) h = let e : c ≡ 48 = eqb-true c 48 h in rw e refl
zero_is (c ∷ d ∷ cs) h = let one = eqb-true (length (c ∷ d ∷ cs)) 1 (and_parts _ _ h).0 in absurd (omega (arith, one))

abbrev unless_zero : Bool → List ℕ → List ℕ
unless_zero b t = cond b [] t

longer : (m x : List ℕ) → 0 < length x → ◌≡◌ {A = List ℕ} [] (m ++ x) → ⊥
longer m x some e = let l : 0 ≡ length (m ++ x) = ap length e in omega (arith, l, length-append m x)

same_marked : (m x y : List ℕ) → 0 < length x → 0 < length y → unless_zero (is_zero x) (m ++ x) ≡ unless_zero (is_zero y) (m ++ y) → x ≡ y
same_marked m x y p q e =
    elim (cases_Bool (is_zero x)) [
      | inl a ↦
          elim (cases_Bool (is_zero y)) [
            | inl b ↦ zero_is x a ∙ sym (zero_is y b)
            | inr b ↦ let f : ◌≡◌ {A = List ℕ} [] (m ++ y) = sym (ap (λ (t : Bool). unless_zero t (m ++ x)) a) ∙ e ∙ ap (λ (t : Bool). unless_zero t (m ++ y)) b in absurd (longer m y q f)
          ]
      | inr a ↦
          elim (cases_Bool (is_zero y)) [
            | inl b ↦ let f : ◌≡◌ {A = List ℕ} [] (m ++ x) = sym (ap (λ (t : Bool). unless_zero t (m ++ y)) b) ∙ sym e ∙ ap (λ (t : Bool). unless_zero t (m ++ x)) a in absurd (longer m x p f)
            | inr b ↦ let f : m ++ x ≡ m ++ y = sym (ap (λ (t : Bool). unless_zero t (m ++ x)) a) ∙ e ∙ ap (λ (t : Bool). unless_zero t (m ++ y)) b in append_cancel_left m x y f
          ]
    ]

-- a serial number's text is that of one
pub one_serial : (f : SerialForm) (s t : List (List ℕ)) → AreSerials f s → AreSerials f t → serial_text f s ≡ serial_text f t → s ≡ t
one_serial Absent s t a b e = a ∙ sym b
one_serial Joined s t a b e =
    let same : a.0 ≡ b.0 = sym (ap (serial_text Joined) a.1) ∙ e ∙ ap (serial_text Joined) b.1 in
    a.1 ∙ ap (λ (x : List ℕ). x ∷ []) same ∙ sym b.1
one_serial (Marked m) s t a b e =
    let same : m ++ a.0 ≡ m ++ b.0 = sym (ap (serial_text (Marked m)) a.1) ∙ e ∙ ap (serial_text (Marked m)) b.1 in
    a.1 ∙ ap (λ (x : List ℕ). x ∷ []) (append_cancel_left m a.0 b.0 same) ∙ sym b.1
one_serial (MarkedUnlessZero m) s t a b e =
    let same : unless_zero (is_zero a.0) (m ++ a.0) ≡ unless_zero (is_zero b.0) (m ++ b.0) = sym (ap (serial_text (MarkedUnlessZero m)) a.1) ∙ e ∙ ap (serial_text (MarkedUnlessZero m)) b.1 in
    a.1 ∙ ap (λ (x : List ℕ). x ∷ []) (same_marked m a.0 b.0 a.2.some b.2.some same) ∙ sym b.1

one_of_digits : (s : List (List ℕ)) (x : List ℕ) → s ≡ x ∷ [] → AreDigits x → AllOfDigits s
one_of_digits s x e h = rw e (h, tt)

pub serial_digits : (f : SerialForm) (s : List (List ℕ)) → AreSerials f s → AllOfDigits s
serial_digits Absent s h = rw h tt
serial_digits Joined s h = one_of_digits s h.0 h.1 h.2.digits
serial_digits (Marked m) s h = one_of_digits s h.0 h.1 h.2.digits
serial_digits (MarkedUnlessZero m) s h = one_of_digits s h.0 h.1 h.2.digits

-- the digit 0 behind a mark is no serial number's text
pub no_zero_mark : (m text zero_text : List ℕ) (s : List (List ℕ)) → text ≡ m ++ zero_text → is_zero zero_text ≡ true → AreSerials (MarkedUnlessZero m) s → text ≡ serial_text (MarkedUnlessZero m) s → ⊥
no_zero_mark m text z s w zero_is_text a e =
    let is : z ≡ 48 ∷ [] = zero_is z zero_is_text in
    let f : m ++ z ≡ unless_zero (is_zero a.0) (m ++ a.0) = sym w ∙ e ∙ ap (serial_text (MarkedUnlessZero m)) a.1 in
    elim (cases_Bool (is_zero a.0)) [
      | inl b ↦ let g : m ++ z ≡ [] = f ∙ ap (λ (t : Bool). unless_zero t (m ++ a.0)) b in longer m z (let l : length z ≡ 1 = ap length is in omega (arith, l)) (sym g)
      | inr b ↦ let g : m ++ z ≡ m ++ a.0 = f ∙ ap (λ (t : Bool). unless_zero t (m ++ a.0)) b in true≢false (sym zero_is_text ∙ ap is_zero (append_cancel_left m z a.0 g) ∙ b)
    ]
