-- How the text of lines grows.
use Rattle.std.proofs.Common.{◌≡◌, ℕ, ◌+◌, ◌<◌, List, [], ◌∷◌, ◌++◌, length, take, get_or, ◌*◌, true, false, nat_eq, refl, sym, ap, subst, ◌∙◌, arith, append_assoc}
use Rattle.std.specs.Prelude.{Option, None, Some, Result, Ok, Err, OnOk, cond, is_ok, if◌then◌else◌}
use Rattle.llrp_schema.specs.declared.kinds.Kind.{Kind}
use Rattle.std.proofs.lemmas.List.{append-nil, take_more}
use Rattle.std.proofs.lemmas.Bool.{eqb-true}
use Rattle.hex.specs.Hex.{encode_with, encode_lower, lower_digits}
use Rattle.llrp_explain.specs.declared.lines.Lines.{Lines}
use Rattle.llrp_explain.specs.Calls.ExplainLines.{ExplainLine, octets_line, bits_of_lines, standing_bits}
use Rattle.llrp_explain.specs.Calls.ExplainText.{kind_after, kind_after_line, line_text, lines_text, read_text, readings_text, words_text}
use Rattle.llrp_explain.specs.Calls.Printed.{Holds, Adds}

encode_more : (t xs ys : List ℕ) → encode_with t (xs ++ ys) ≡ encode_with t xs ++ encode_with t ys
unfolding encode_with
encode_more t [] ys = refl
encode_more t (x ∷ xs) ys = rw (encode_more t xs ys) refl

encode_none : (t : List ℕ) → encode_with t [] ≡ []
unfolding encode_with
encode_none t = refl

pub octets_none : (old : List ℕ) → old ≡ old ++ encode_lower []
octets_none old = sym (append-nil old) ∙ ap (λ (x : List ℕ). old ++ x) (sym (encode_none lower_digits))

pub octets_more : (old now mid written octets new : List ℕ) (i : ℕ) → i < length octets → now ≡ old ++ encode_lower (take i octets) → written ≡ encode_lower (get_or octets i 0 ∷ []) → new ≡ now ++ written
    → new ≡ old ++ encode_lower (take (i + 1) octets)
octets_more old now mid written octets new i lt so is more =
    more ∙ ap (λ (x : List ℕ). now ++ x) is ∙ ap (λ (x : List ℕ). x ++ encode_lower (get_or octets i 0 ∷ [])) so ∙ append_assoc old (encode_lower (take i octets)) (encode_lower (get_or octets i 0 ∷ []))
    ∙ ap (λ (x : List ℕ). old ++ x) (sym (encode_more lower_digits (take i octets) (get_or octets i 0 ∷ [])) ∙ ap encode_lower (sym (take_more octets i 0 lt)))

-- ---- text and bits of lines in a row

abbrev bits : ExplainLine → ℕ
bits l = standing_bits l.bits l.standing

pub bits_append : (xs ys : List ExplainLine) → bits_of_lines (xs ++ ys) ≡ bits_of_lines xs + bits_of_lines ys
unfolding bits_of_lines
bits_append [] ys = (let z : bits_of_lines ys ≡ 0 + bits_of_lines ys = omega arith in z)
bits_append (x ∷ xs) ys = let a = bits_append xs ys in omega arith

zero_of : (n : ℕ) → nat_eq n 0 ≡ true → n ≡ 0
zero_of n e = eqb-true n 0 e

pub some_of : (n : ℕ) → 0 < n → nat_eq n 0 ≡ false
some_of n h = elim (nat_eq n 0) as (λ b. nat_eq n 0 ≡ b → b ≡ false) [ true ↦ λ e. absurd (omega (arith, h, eqb-true n 0 e)) | false ↦ λ e. refl ] refl

pub text_append : (k : Option Kind) (n : ℕ) (xs ys : List ExplainLine) → readings_text k n (xs ++ ys) ≡ readings_text k n xs ++ readings_text (kind_after k xs) (n + bits_of_lines xs) ys
unfolding readings_text kind_after bits_of_lines
text_append k n [] ys = ap (λ (m : ℕ). readings_text k m ys) (let z : n ≡ n + 0 = omega arith in z)
text_append k n (x ∷ xs) ys =
    elim (nat_eq (bits x) 0) as (λ b. nat_eq (bits x) 0 ≡ b → cond b (readings_text k n (xs ++ ys)) (read_text k n x ++ readings_text (kind_after_line k x) (n + bits x) (xs ++ ys)) ≡ cond b (readings_text k n xs) (read_text k n x ++ readings_text (kind_after_line k x) (n + bits x) xs) ++ readings_text (kind_after (cond b k (kind_after_line k x)) xs) (n + (bits x + bits_of_lines xs)) ys) [
      | true ↦ λ z. text_append k n xs ys ∙ ap (λ (m : ℕ). readings_text k n xs ++ readings_text (kind_after k xs) m ys) (let z2 = zero_of (bits x) z in let z3 : n + bits_of_lines xs ≡ n + (bits x + bits_of_lines xs) = omega arith in z3)
      | false ↦ λ z. ap (λ (t : List ℕ). read_text k n x ++ t) (text_append (kind_after_line k x) (n + bits x) xs ys ∙ ap (λ (m : ℕ). readings_text (kind_after_line k x) (n + bits x) xs ++ readings_text (kind_after (kind_after_line k x) xs) m ys) (let z3 : n + bits x + bits_of_lines xs ≡ n + (bits x + bits_of_lines xs) = omega arith in z3)) ∙ sym (append_assoc (read_text k n x) (readings_text (kind_after_line k x) (n + bits x) xs) (readings_text (kind_after (kind_after_line k x) xs) (n + (bits x + bits_of_lines xs)) ys))
    ] refl

pub kind_append : (k : Option Kind) (xs ys : List ExplainLine) → kind_after k (xs ++ ys) ≡ kind_after (kind_after k xs) ys
unfolding kind_after
kind_append k [] ys = refl
kind_append k (x ∷ xs) ys = kind_append (cond (nat_eq (bits x) 0) k (kind_after_line k x)) xs ys

read_one : (k : Option Kind) (n : ℕ) (l : ExplainLine) → nat_eq (bits l) 0 ≡ false → readings_text k n (l ∷ []) ≡ read_text k n l
unfolding readings_text
read_one k n l e = rw e (append-nil (read_text k n l))

read_none : (k : Option Kind) (n : ℕ) (l : ExplainLine) → bits l ≡ 0 → readings_text k n (l ∷ []) ≡ []
unfolding readings_text
read_none k n l e = rw e refl

kind_one : (k : Option Kind) (l : ExplainLine) → nat_eq (bits l) 0 ≡ false → kind_after k (l ∷ []) ≡ kind_after_line k l
unfolding kind_after
kind_one k l e = rw e refl

kind_none : (k : Option Kind) (l : ExplainLine) → bits l ≡ 0 → kind_after k (l ∷ []) ≡ k
unfolding kind_after
kind_none k l e = rw e refl

pub one_text : (n : ℕ) (l : ExplainLine) → nat_eq (bits l) 0 ≡ false → lines_text n (l ∷ []) ≡ line_text n l
unfolding lines_text
one_text n l e = rw e (append-nil (line_text n l))

one_bits : (l : ExplainLine) → bits_of_lines (l ∷ []) ≡ bits l
unfolding bits_of_lines
one_bits l = (let z : bits l + 0 ≡ bits l = omega arith in z)

-- octets have no reading
pub octets_read : (k : Option Kind) (bit level : ℕ) (name os : List ℕ) → line_text bit (octets_line level name os) ≡ read_text k bit (octets_line level name os)
octets_read None bit level name os = ap (λ (w : List ℕ). words_text bit (8 * length os) level name w) (sym (append-nil (120 ∷ encode_lower os)))
octets_read (Some j) bit level name os = ap (λ (w : List ℕ). words_text bit (8 * length os) level name w) (sym (append-nil (120 ∷ encode_lower os)))

-- ---- what is added

pub adds_none : (x : Lines) → Adds [] x x
adds_none x was lines h = subst (λ (ls : List ExplainLine). Holds was ls x) (sym (append-nil lines)) h

pub adds_then : (a b : List ExplainLine) (x y z : Lines) → Adds a x y → Adds b y z → Adds (a ++ b) x z
adds_then a b x y z f g was lines h = subst (λ (ls : List ExplainLine). Holds was ls z) (append_assoc lines a b) (g was (lines ++ a) (f was lines h))

pub adds_empty : (l : ExplainLine) (x : Lines) → standing_bits l.bits l.standing ≡ 0 → Adds (l ∷ []) x x
unfolding Holds
adds_empty l x e was lines h small =
    let b = bits_append lines (l ∷ []) in
    let one = one_bits l in
    let old = h (omega arith) in (
      old.0 ∙ ap (λ (t : List ℕ). was ++ t) (sym (text_append None 0 lines (l ∷ []) ∙ ap (λ (t : List ℕ). readings_text None 0 lines ++ t) (read_none (kind_after None lines) (0 + bits_of_lines lines) l e) ∙ append-nil (readings_text None 0 lines))),
      old.1 ∙ (let z : bits_of_lines lines ≡ bits_of_lines (lines ++ l ∷ []) = omega arith in z),
      old.2 ∙ sym (kind_append None lines (l ∷ []) ∙ kind_none (kind_after None lines) l e),
    )

pub adds_line : (l : ExplainLine) (x y : Lines) → 0 < standing_bits l.bits l.standing → y.text.items ≡ x.text.items ++ read_text x.kind x.bit l → (x.bit + standing_bits l.bits l.standing < 4294967296 → y.bit ≡ x.bit + standing_bits l.bits l.standing)
    → y.kind ≡ kind_after_line x.kind l → Adds (l ∷ []) x y
unfolding Holds
adds_line l x y some t after kind was lines h small =
    let b = bits_append lines (l ∷ []) in
    let one = one_bits l in
    let old = h (omega arith) in
    let at = old.1 in
    let ne : nat_eq (bits l) 0 ≡ false = some_of (bits l) some in
    let text : readings_text None 0 (lines ++ l ∷ []) ≡ readings_text None 0 lines ++ read_text x.kind x.bit l =
    text_append None 0 lines (l ∷ []) ∙ ap (λ (u : List ℕ). readings_text None 0 lines ++ u) (read_one (kind_after None lines) (0 + bits_of_lines lines) l ne ∙ ap (λ (n : ℕ). read_text (kind_after None lines) n l) (let z : 0 + bits_of_lines lines ≡ x.bit = omega (arith, at) in z) ∙ ap (λ (k : Option Kind). read_text k x.bit l) (sym old.2)) in (
      t ∙ ap (λ (u : List ℕ). u ++ read_text x.kind x.bit l) old.0 ∙ append_assoc was (readings_text None 0 lines) (read_text x.kind x.bit l) ∙ ap (λ (u : List ℕ). was ++ u) (sym text),
      after (omega arith) ∙ (let z : x.bit + bits l ≡ bits_of_lines (lines ++ l ∷ []) = omega arith in z),
      kind ∙ ap (λ (k : Option Kind). kind_after_line k l) old.2 ∙ sym (kind_append None lines (l ∷ []) ∙ kind_one (kind_after None lines) l ne),
    )

-- what follows from what holds of a result that is Ok
pub on_adds : {T E : Type 0} (r : Result T E) (a b : List ExplainLine) (x y z : Lines) → Adds a x y → OnOk r (Adds b y z) → OnOk r (Adds (a ++ b) x z)
on_adds (Ok v) a b x y z f g = adds_then a b x y z f g
on_adds (Err e) a b x y z f g = g

pub moved : {T E : Type 0} (r : Result T E) (a b : List ExplainLine) (x z : Lines) → a ≡ b → OnOk r (Adds a x z) → OnOk r (Adds b x z)
moved r a b x z e h = subst (λ (ls : List ExplainLine). OnOk r (Adds ls x z)) e h

pub ok_adds : {T E : Type 0} (r : Result T E) (a : List ExplainLine) (x z : Lines) → Adds a x z → OnOk r (Adds a x z)
ok_adds (Ok v) a x z h = h
ok_adds (Err e) a x z h = tt

words_joined : (t a b c n h : List ℕ) → ((((((t ++ (a ++ 32 ∷ [])) ++ (b ++ 32 ∷ [])) ++ (c ++ 32 ∷ [])) ++ n) ++ (32 ∷ 120 ∷ [])) ++ h) ++ (10 ∷ []) ≡ t ++ (a ++ (32 ∷ (b ++ (32 ∷ (c ++ (32 ∷ (n ++ (32 ∷ ((120 ∷ h) ++ (10 ∷ []))))))))))
words_joined t a b c n h = simp append_assoc

-- the line of octets in words
pub octets_text : (t0 t1 t2 t3 t4 t5 t6 t7 a b c n h : List ℕ) → t1 ≡ t0 ++ (a ++ 32 ∷ []) → t2 ≡ t1 ++ (b ++ 32 ∷ []) → t3 ≡ t2 ++ (c ++ 32 ∷ []) → t4 ≡ t3 ++ n → t5 ≡ t4 ++ (32 ∷ 120 ∷ []) → t6 ≡ t5 ++ h → t7 ≡ t6 ++ (10 ∷ [])
    → t7 ≡ t0 ++ (a ++ (32 ∷ (b ++ (32 ∷ (c ++ (32 ∷ (n ++ (32 ∷ ((120 ∷ h) ++ (10 ∷ []))))))))))
octets_text t0 t1 t2 t3 t4 t5 t6 t7 a b c n h e1 e2 e3 e4 e5 e6 e7 = rw (e7, e6, e5, e4, e3, e2, e1) (words_joined t0 a b c n h)

-- what follows from what is written where a result is Ok
pub on_written : {T E : Type 0} (r : Result T E) (new a b : List ℕ) (Q : Type 0) → new ≡ (if is_ok r then a else b) → (new ≡ a → Q) → OnOk r Q
on_written (Ok v) new a b Q e f = f e
on_written (Err x) new a b Q e f = tt

pub with_part : (old new a b : List ℕ) → new ≡ old ++ a → a ≡ b → new ≡ old ++ b
with_part old new a b p e = p ∙ ap (λ (x : List ℕ). old ++ x) e

-- a text in three parts, in four, in five and in nine
three_joined : (t a b c : List ℕ) → ((t ++ a) ++ b) ++ c ≡ t ++ (a ++ (b ++ c))
three_joined t a b c = simp append_assoc

pub three_parts : (t0 t1 t2 t3 a b c : List ℕ) → t1 ≡ t0 ++ a → t2 ≡ t1 ++ b → t3 ≡ t2 ++ c → t3 ≡ t0 ++ (a ++ (b ++ c))
three_parts t0 t1 t2 t3 a b c e1 e2 e3 = rw (e3, e2, e1) (three_joined t0 a b c)

four_joined : (t a b c d : List ℕ) → (((t ++ a) ++ b) ++ c) ++ d ≡ t ++ (a ++ (b ++ (c ++ d)))
four_joined t a b c d = simp append_assoc

pub four_parts : (t0 t1 t2 t3 t4 a b c d : List ℕ) → t1 ≡ t0 ++ a → t2 ≡ t1 ++ b → t3 ≡ t2 ++ c → t4 ≡ t3 ++ d → t4 ≡ t0 ++ (a ++ (b ++ (c ++ d)))
four_parts t0 t1 t2 t3 t4 a b c d e1 e2 e3 e4 = rw (e4, e3, e2, e1) (four_joined t0 a b c d)

-- what ends past the end of a node, in words before
before_past : (t a b c x : List ℕ) → ((t ++ a) ++ b) ++ (c ++ x) ≡ t ++ ((a ++ (b ++ c)) ++ x)
before_past t a b c x = simp append_assoc

pub past_three : (t0 t1 t2 t3 a b c x : List ℕ) → t1 ≡ t0 ++ a → t2 ≡ t1 ++ b → t3 ≡ t2 ++ (c ++ x) → t3 ≡ t0 ++ ((a ++ (b ++ c)) ++ x)
past_three t0 t1 t2 t3 a b c x e1 e2 e3 = rw (e3, e2, e1) (before_past t0 a b c x)

long_before_past : (t a b c d e x : List ℕ) → ((((t ++ a) ++ b) ++ c) ++ d) ++ (e ++ x) ≡ t ++ ((a ++ (b ++ (c ++ (d ++ e)))) ++ x)
long_before_past t a b c d e x = simp append_assoc

pub past_five : (t0 t1 t2 t3 t4 t5 a b c d e x : List ℕ) → t1 ≡ t0 ++ a → t2 ≡ t1 ++ b → t3 ≡ t2 ++ c → t4 ≡ t3 ++ d → t5 ≡ t4 ++ (e ++ x) → t5 ≡ t0 ++ ((a ++ (b ++ (c ++ (d ++ e)))) ++ x)
past_five t0 t1 t2 t3 t4 t5 a b c d e x e1 e2 e3 e4 e5 = rw (e5, e4, e3, e2, e1) (long_before_past t0 a b c d e x)

five_joined : (t a b c d e : List ℕ) → ((((t ++ a) ++ b) ++ c) ++ d) ++ e ≡ t ++ (a ++ (b ++ (c ++ (d ++ e))))
five_joined t a b c d e = simp append_assoc

pub five_parts : (t0 t1 t2 t3 t4 t5 a b c d e : List ℕ) → t1 ≡ t0 ++ a → t2 ≡ t1 ++ b → t3 ≡ t2 ++ c → t4 ≡ t3 ++ d → t5 ≡ t4 ++ e → t5 ≡ t0 ++ (a ++ (b ++ (c ++ (d ++ e))))
five_parts t0 t1 t2 t3 t4 t5 a b c d e e1 e2 e3 e4 e5 = rw (e5, e4, e3, e2, e1) (five_joined t0 a b c d e)

nine_joined : (t a b c d e f g h i : List ℕ) → ((((((((t ++ a) ++ b) ++ c) ++ d) ++ e) ++ f) ++ g) ++ h) ++ i ≡ t ++ ((a ++ (b ++ (c ++ (d ++ e)))) ++ (f ++ (g ++ (h ++ i))))
nine_joined t a b c d e f g h i = simp append_assoc

pub nine_parts : (t0 t1 t2 t3 t4 t5 t6 t7 t8 t9 a b c d e f g h i : List ℕ) → t1 ≡ t0 ++ a → t2 ≡ t1 ++ b → t3 ≡ t2 ++ c → t4 ≡ t3 ++ d → t5 ≡ t4 ++ e → t6 ≡ t5 ++ f → t7 ≡ t6 ++ g → t8 ≡ t7 ++ h → t9 ≡ t8 ++ i
    → t9 ≡ t0 ++ ((a ++ (b ++ (c ++ (d ++ e)))) ++ (f ++ (g ++ (h ++ i))))
nine_parts t0 t1 t2 t3 t4 t5 t6 t7 t8 t9 a b c d e f g h i e1 e2 e3 e4 e5 e6 e7 e8 e9 = rw (e9, e8, e7, e6, e5, e4, e3, e2, e1) (nine_joined t0 a b c d e f g h i)
