-- The tag URIs of USDoD-96.
use Rattle.std.proofs.Common.{◌≡◌, ℕ, ◌+◌, ◌^◌, ◌<◌, ◌≤◌, Bool, true, false, List, [], ◌∷◌, ◌++◌, length, get_or, Some, None, refl, sym, ap, subst, ◌∙◌, arith, length-append, inl, inr}
use Rattle.std.specs.Prelude.{◌==◌, ◌||◌, ◌&&◌, not, if◌then◌else◌, codes}
use Rattle.std.specs.List.{All, join_with_byte, list_all}
use Rattle.std.proofs.lemmas.Bool.{eq-eqb, eqb-true, ne_eqb}
use Rattle.std.proofs.lemmas.Fmt.{decimal_injective}
use Rattle.std.specs.Str.{IsUtf8}
use Rattle.std.proofs.lemmas.Str.{IsUtf8-from_ascii}
use Rattle.std.proofs.lemmas.Str.Ascii.{IsAscii-from_all}
use Rattle.std.proofs.lemmas.List.{append_assoc, append_cancel_left}
use Rattle.std.proofs.lemmas.List.Elements.{All-nil, All-cons}
use Rattle.tag_epc.proofs.Soundness.{both}
use Rattle.tag_epc.specs.declared.kind.Kind.{Kind}
use Rattle.tag_epc.specs.declared.kind.Kind.TheVariants.{Sgtin, Sscc, Sgln, Grai, Gdti, Gsrn, Gid}
use Rattle.tag_uri.specs.declared.fault.UriFault.TheVariants as fault
use Rattle.tag_uri.specs.Calls.Decimal.{AreDigits}
use Rattle.tag_uri.specs.Decimal.{decimal_value, plain}
use Rattle.tag_uri.specs.TagText.{tag_start, scheme_text, components, is_zero_led}
use Rattle.tag_uri.proofs.ComponentLemmas.{joined, not_false, or_false}
use Rattle.tag_uri.proofs.DecimalLemmas.{plain_short}
use Rattle.tag_uri.proofs.GeneralLemmas.{as_plain}
use Rattle.tag_uri.proofs.LawfulTexts.{digits_of_plain, fine}
use Rattle.tag_uri.proofs.ReadLemmas.{SomeDigits, not_stray}
use Rattle.tag_schemes.specs.declared.scheme.Scheme.{Scheme}
use Rattle.tag_schemes.specs.declared.scheme.Scheme.TheVariants.{Giai, Gsrnp, Sgcn, Cpi}
use Rattle.tag_schemes.specs.declared.supplier.Supplier.{Supplier}
use Rattle.tag_schemes.specs.declared.fault.SchemeFault.{SchemeFault}
use Rattle.tag_schemes.specs.declared.fault.SchemeFault.TheVariants.{Long, Code, Tag}
use Rattle.tag_schemes.specs.AllTexts.{BeginsAsSupplier, HasFaultInAll}
use Rattle.tag_schemes.specs.Suppliers.{code_text, is_code_character, may_stand, supplier_components, supplier_text, supplier_uri, IsSupplier, MayStand}
use Rattle.tag_schemes.specs.SupplierRules.{first_of, is_no_code, supplier_rules, HasSupplierTextFault}
use Rattle.tag_schemes.specs.Texts.{text_in, is_no_number}
use Rattle.tag_schemes.proofs.SupplierFacts.{same_supplier}
use Rattle.tag_schemes.proofs.TextFacts.{Dotless, divided}

-- ---- names

unequal : (m n : ℕ) → m ≡ n → (m == n) ≡ false → ⊥
unequal m n e h = let a = eq-eqb m n e in cc

-- the texts of other schemes begin with another letter
pub kind_text_apart : (k : Kind) (x y : List ℕ) → scheme_text k x ≡ supplier_text y → ⊥
kind_text_apart Sgtin x y e = unequal 115 117 (ap (λ (t : List ℕ). get_or t 0 0) e) refl
kind_text_apart Sscc x y e = unequal 115 117 (ap (λ (t : List ℕ). get_or t 0 0) e) refl
kind_text_apart Sgln x y e = unequal 115 117 (ap (λ (t : List ℕ). get_or t 0 0) e) refl
kind_text_apart Grai x y e = unequal 103 117 (ap (λ (t : List ℕ). get_or t 0 0) e) refl
kind_text_apart Gdti x y e = unequal 103 117 (ap (λ (t : List ℕ). get_or t 0 0) e) refl
kind_text_apart Gsrn x y e = unequal 103 117 (ap (λ (t : List ℕ). get_or t 0 0) e) refl
kind_text_apart Gid x y e = unequal 103 117 (ap (λ (t : List ℕ). get_or t 0 0) e) refl

pub scheme_text_apart : (s : Scheme) (x y : List ℕ) → text_in s x ≡ supplier_text y → ⊥
scheme_text_apart Giai x y e = unequal 103 117 (ap (λ (t : List ℕ). get_or t 0 0) e) refl
scheme_text_apart Gsrnp x y e = unequal 103 117 (ap (λ (t : List ℕ). get_or t 0 0) e) refl
scheme_text_apart Sgcn x y e = unequal 115 117 (ap (λ (t : List ℕ). get_or t 0 0) e) refl
scheme_text_apart Cpi x y e = unequal 99 117 (ap (λ (t : List ℕ). get_or t 0 0) e) refl

pub supplier_uri_is : (e : Supplier) → supplier_uri e ≡ tag_start ++ supplier_text (join_with_byte 46 (supplier_components e))
unfolding supplier_uri
supplier_uri_is e = refl

-- ---- codes

-- of two tests that one passes the first, where the second fails
first_passes : (b y : Bool) → y ≡ false → (b || y) ≡ true → b ≡ true
first_passes true y e h = refl
first_passes false y e h = cc

and_false : (b x : Bool) → b ≡ false → (b && x) ≡ false
and_false b x e = rw e refl

-- after the first place no space stands
later : (p c : ℕ) → may_stand (p + 1) c ≡ true → is_code_character c ≡ true
later p c e = first_passes (is_code_character c) ((p + 1 == 0) && (c == 32)) (and_false (p + 1 == 0) (c == 32) (ne_eqb (p + 1) 0 (λ z. omega (arith, z)))) e

others_pass : (p : ℕ) (cs : List ℕ) → MayStand (p + 1) cs → list_all is_code_character cs ≡ true
others_pass p [] h = refl
others_pass p (c ∷ cs) h = let first = later p c h.0 in rw first (others_pass (p + 1) cs h.1)

-- a code's text
text_when : (b : Bool) (c : ℕ) (cs : List ℕ) → (c == 32) ≡ b → code_text (c ∷ cs) ≡ (if b then cs else c ∷ cs)
text_when b c cs e = rw e refl

all_stand : (p : ℕ) (cs : List ℕ) → list_all is_code_character cs ≡ true → MayStand p cs
all_stand p [] h = tt
all_stand p (c ∷ cs) h = let two = both _ _ h in (ap (λ (b : Bool). b || ((p == 0) && (c == 32))) two.0, all_stand (p + 1) cs two.1)

-- a code has ASCII characters alone
stands_ascii : (p : ℕ) (cs : List ℕ) → MayStand p cs → All (λ b. b < 128) cs
stands_ascii p [] h = All-nil (λ b. b < 128)
stands_ascii p (c ∷ cs) h = All-cons (λ b. b < 128) c cs (ascii p c h.0) (stands_ascii (p + 1) cs h.1)
  where
    ascii : (p c : ℕ) → may_stand p c ≡ true → c < 128
    ascii p c e = grind arith

pub code_utf8 : (cs : List ℕ) → MayStand 0 cs → IsUtf8 cs
code_utf8 cs h = IsUtf8-from_ascii cs (IsAscii-from_all cs (stands_ascii 0 cs h))

pub record CodeText (text : List ℕ) : Type 0 where
  pub characters : list_all is_code_character text ≡ true
  pub count : (length text == 5 || length text == 6) ≡ true
  pub few : length text ≤ 6

five_or_six : (n : ℕ) → n ≡ 5 → (n == 5 || n == 6) ≡ true
five_or_six n e = rw e refl

six_too : (n : ℕ) → n ≡ 6 → (n == 5 || n == 6) ≡ true
six_too n e = rw e refl

pub code_is : (cs : List ℕ) → length cs ≡ 6 → MayStand 0 cs → CodeText (code_text cs)
code_is [] six h = absurd (omega (arith, six))
code_is (c ∷ cs) six h = step (c == 32) refl
  where
    step : (b : Bool) → (c == 32) ≡ b → CodeText (code_text (c ∷ cs))
    step true e = subst CodeText (sym (text_when true c cs e)) (record { characters = others_pass 0 cs h.1; count = five_or_six (length cs) (omega (arith, six)); few = omega (arith, six) })
    step false e =
        let first : is_code_character c ≡ true = first_passes (is_code_character c) (c == 32) e h.0 in
        subst CodeText (sym (text_when false c cs e)) (record { characters = rw first (others_pass 0 cs h.1); count = six_too (length (c ∷ cs)) six; few = omega (arith, six) })

-- six characters whose text no rule refuses
pub code_stands : (cs text : List ℕ) → length cs ≡ 6 → code_text cs ≡ text → is_no_code text ≡ false → MayStand 0 cs
code_stands [] text six e h = absurd (omega (arith, six))
code_stands (c ∷ cs) text six e h = step (c == 32) refl
  where
    pass : list_all is_code_character text ≡ true
    pass = not_false (list_all is_code_character text) (or_false (not (length text == 5 || length text == 6)) (not (list_all is_code_character text)) h).1

    step : (b : Bool) → (c == 32) ≡ b → MayStand 0 (c ∷ cs)
    step true f =
        let tail : cs ≡ text = sym (text_when true c cs f) ∙ e in
        let space : c ≡ 32 = eqb-true c 32 f in
        (rw space refl, all_stand 1 cs (ap (list_all is_code_character) tail ∙ pass))
    step false f = all_stand 0 (c ∷ cs) (ap (list_all is_code_character) (sym (text_when false c cs f) ∙ e) ∙ pass)

-- a code is known by its text
same_code_text : (a b : List ℕ) → length a ≡ 6 → length b ≡ 6 → code_text a ≡ code_text b → a ≡ b
same_code_text [] b p q e = absurd (omega (arith, p))
same_code_text (x ∷ xs) [] p q e = absurd (omega (arith, q))
same_code_text (x ∷ xs) (y ∷ ys) p q e = step (x == 32) (y == 32) refl refl
  where
    step : (b d : Bool) → (x == 32) ≡ b → (y == 32) ≡ d → x ∷ xs ≡ y ∷ ys
    step true true f g =
        let tail : xs ≡ ys = sym (text_when true x xs f) ∙ e ∙ text_when true y ys g in
        ap (λ (z : ℕ). z ∷ xs) (eqb-true x 32 f ∙ sym (eqb-true y 32 g)) ∙ ap (λ (z : List ℕ). y ∷ z) tail
    step true false f g =
        let tail : xs ≡ y ∷ ys = sym (text_when true x xs f) ∙ e ∙ text_when false y ys g in
        absurd (let count : length xs ≡ length (y ∷ ys) = ap length tail in omega (arith, p, q, count))
    step false true f g =
        let tail : x ∷ xs ≡ ys = sym (text_when false x xs f) ∙ e ∙ text_when true y ys g in
        absurd (let count : length (x ∷ xs) ≡ length ys = ap length tail in omega (arith, p, q, count))
    step false false f g = sym (text_when false x xs f) ∙ e ∙ text_when false y ys g

-- ---- components

no_dot : (c : ℕ) → is_code_character c ≡ true → (c == 46) ≡ false
no_dot c h = ne_eqb c 46 (λ e. absurd (let there : is_code_character 46 ≡ true = subst (λ (x : ℕ). is_code_character x ≡ true) e h in cc))

code_dotless : (cs : List ℕ) → list_all is_code_character cs ≡ true → Dotless cs
code_dotless [] h = All-nil (λ x. (x == 46) ≡ false)
code_dotless (c ∷ cs) h = let two = both _ _ h in All-cons (λ x. (x == 46) ≡ false) c cs (no_dot c two.0) (code_dotless cs two.1)

digits_dotless : (cs : List ℕ) → AreDigits cs → Dotless cs
digits_dotless [] h = All-nil (λ x. (x == 46) ≡ false)
digits_dotless (c ∷ cs) h = let r = h.0 in All-cons (λ x. (x == 46) ≡ false) c cs (ne_eqb c 46 (λ e. omega (arith, r, e))) (digits_dotless cs h.1)

-- the numbers of a lawful EPC are small
filter_small : (e : Supplier) → IsSupplier e → e.filter < 2 ^ 64
filter_small e h = omega (arith, h.filter)

serial_small : (e : Supplier) → IsSupplier e → e.serial < 2 ^ 64
serial_small e h = omega (arith, h.serial)

again : (e : Supplier) → IsSupplier e → components (join_with_byte 46 (supplier_components e)) ≡ supplier_components e
again e h =
    divided (plain e.filter) (code_text e.code ∷ plain e.serial ∷ []) (
      digits_dotless (plain e.filter) (digits_of_plain e.filter (filter_small e h)),
      (code_dotless (code_text e.code) (code_is e.code h.six h.code).characters, (digits_dotless (plain e.serial) (digits_of_plain e.serial (serial_small e h)), tt)),
    )

three_same : (a b c x y z : List ℕ) → a ∷ b ∷ c ∷ [] ≡ x ∷ y ∷ z ∷ [] → (a ≡ x) × (b ≡ y) × (c ≡ z)
three_same a b c x y z e = (cc, cc, cc)

-- an EPC is known by its tag URI
pub one_supplier_uri : (d e : Supplier) → IsSupplier d → IsSupplier e → supplier_uri d ≡ supplier_uri e → d ≡ e
one_supplier_uri d e h i same =
    let text = append_cancel_left tag_start _ _ (sym (supplier_uri_is d) ∙ same ∙ supplier_uri_is e) in
    let rest = append_cancel_left (codes "usdod-96:") (join_with_byte 46 (supplier_components d)) (join_with_byte 46 (supplier_components e)) text in
    let cs : supplier_components d ≡ supplier_components e = sym (again d h) ∙ ap components rest ∙ again e i in
    let p = three_same (plain d.filter) (code_text d.code) (plain d.serial) (plain e.filter) (code_text e.code) (plain e.serial) cs in
    same_supplier d e (decimal_injective d.filter e.filter (filter_small d h) (filter_small e i) p.0) (same_code_text d.code e.code h.six i.six p.1) (decimal_injective d.serial e.serial (serial_small d h) (serial_small e i) p.2)

-- it is short
pub supplier_short : (e : Supplier) → IsSupplier e → length (supplier_uri e) ≤ 96
supplier_short e h =
    let last : List ℕ = code_text e.code ++ 46 ∷ plain e.serial in
    let numbers : List ℕ = plain e.filter ++ 46 ∷ last in
    let e0 : length (supplier_uri e) ≡ length (tag_start ++ supplier_text numbers) = ap length (supplier_uri_is e) in
    let e1 = length-append (plain e.filter) (46 ∷ last) in
    let e2 = length-append (code_text e.code) (46 ∷ plain e.serial) in
    omega (arith, e0, e1, e2, (code_is e.code h.six h.code).few, plain_short 2 e.filter (omega (arith, h.filter)) (omega arith) (filter_small e h), plain_short 11 e.serial (omega (arith, h.serial)) (omega arith) (serial_small e h))

-- ---- rules

right_code : (cs : List ℕ) → CodeText cs → is_no_code cs ≡ false
right_code cs h = rw (h.count, h.characters) refl

-- no rule refuses the components
supplier_fine : (e : Supplier) → IsSupplier e → first_of (supplier_rules (supplier_components e)) ≡ None
supplier_fine e h =
    let p = fine e.filter 4 h.filter (filter_small e h) in
    let q = fine e.serial 36 h.serial (serial_small e h) in
    let a : is_no_number (plain e.filter) ≡ false = p.stray in
    let b : is_no_number (plain e.serial) ≡ false = q.stray in
    rules_fail _ _ _ _ _ _ _ a b p.led q.led p.over (right_code (code_text e.code) (code_is e.code h.six h.code)) q.over
  where
    rules_fail : (a b d g h i j : Bool) → a ≡ false → b ≡ false → d ≡ false → g ≡ false → h ≡ false → i ≡ false → j ≡ false
        → first_of ((a || b, Tag fault.Digit) ∷ (d || g, Tag fault.LeadingZero) ∷ (h, Tag fault.Filter) ∷ (i, Code) ∷ (j, Tag fault.Range) ∷ []) ≡ None
    rules_fail a b d g h i j p0 p1 p2 p3 p4 p5 p6 = rw (p0, p1, p2, p3, p4, p5, p6) refl

pub supplier_no_fault : (e : Supplier) (rest : List ℕ) (f : SchemeFault) → IsSupplier e → rest ≡ join_with_byte 46 (supplier_components e) → HasSupplierTextFault rest f → ⊥
supplier_no_fault e rest f h is x =
    let none = supplier_fine e h in
    let some : first_of (supplier_rules (supplier_components e)) ≡ Some f = ap (λ (cs : List (List ℕ)). first_of (supplier_rules cs)) (sym (ap components is ∙ again e h)) ∙ x in
    cc

-- no rule names the length
never_long : (cs : List (List ℕ)) → first_of (supplier_rules cs) ≡ Some Long → ⊥
never_long [] h = cc
never_long (a ∷ []) h = cc
never_long (a ∷ (b ∷ [])) h = cc
never_long (a ∷ (b ∷ (c ∷ []))) h = five _ _ _ _ _ h
  where
    five : (a b d g i : Bool) → first_of ((a, Tag fault.Digit) ∷ (b, Tag fault.LeadingZero) ∷ (d, Tag fault.Filter) ∷ (g, Code) ∷ (i, Tag fault.Range) ∷ []) ≡ Some Long → ⊥
    five true b d g i h = cc
    five false true d g i h = cc
    five false false true g i h = cc
    five false false false true i h = cc
    five false false false false true h = cc
    five false false false false false h = cc
never_long (a ∷ (b ∷ (c ∷ (d ∷ cs)))) h = cc

pub supplier_refused : (text rest : List ℕ) (f : SchemeFault) → BeginsAsSupplier text rest → length text ≤ 96 → HasSupplierTextFault rest f → HasFaultInAll text f
supplier_refused text rest Long b few h = absurd (never_long (components rest) h)
supplier_refused text rest Code b few h = record { rest = rest; begins = b; few = few; refused = h }
supplier_refused text rest (Tag f) b few h = inr (inl (record { rest = rest; begins = b; few = few; refused = h }))

-- ---- texts that are written

pub supplier_pieces : (e : Supplier) (start t0 t1 t2 t3 t4 t5 t6 : List ℕ) → start ≡ tag_start ++ codes "usdod-96:" → t0 ≡ [] → t1 ≡ t0 ++ start → t2 ≡ t1 ++ plain e.filter → t3 ≡ t2 ++ 46 ∷ [] → t4 ≡ t3 ++ code_text e.code → t5 ≡ t4 ++ 46 ∷ []
    → t6 ≡ t5 ++ plain e.serial → t6 ≡ supplier_uri e
supplier_pieces e start t0 t1 t2 t3 t4 t5 t6 s e0 e1 e2 e3 e4 e5 e6 = rw (e6, e5, e4, e3, e2, e1, e0, s) (simp append_assoc refl) ∙ sym (supplier_uri_is e)

-- ---- texts that are read

-- two texts of digits
pub two_digits : (a b : List ℕ) → (is_no_number a || is_no_number b) ≡ false → SomeDigits a × SomeDigits b
two_digits a b h = let p = or_false _ _ h in (not_stray a p.0, not_stray b p.1)

pub supplier_text_read : (rest filter code serial : List ℕ) (f s : ℕ) (cs : List ℕ) → components rest ≡ filter ∷ code ∷ serial ∷ [] → SomeDigits filter → is_zero_led filter ≡ false → f ≡ decimal_value filter → f < 2 ^ 4 → code_text cs ≡ code
    → SomeDigits serial → is_zero_led serial ≡ false → s ≡ decimal_value serial → s < 2 ^ 36 → rest ≡ join_with_byte 46 (plain f ∷ code_text cs ∷ plain s ∷ [])
supplier_text_read rest filter code serial f s cs split digits led is_f low is_c others unled is_s under =
    let first : filter ≡ plain f = sym (as_plain filter 4 f digits led (omega arith) is_f low) in
    let third : serial ≡ plain s = sym (as_plain serial 36 s others unled (omega arith) is_s under) in
    sym (joined rest) ∙ ap (join_with_byte 46) (split ∙ ap (λ (x : List ℕ). x ∷ code ∷ serial ∷ []) first ∙ ap (λ (x : List ℕ). plain f ∷ x ∷ serial ∷ []) (sym is_c) ∙ ap (λ (x : List ℕ). plain f ∷ code_text cs ∷ x ∷ []) third)

-- the text that was read
pub supplier_is : (e : Supplier) (text rest : List ℕ) → BeginsAsSupplier text rest → rest ≡ join_with_byte 46 (supplier_components e) → text ≡ supplier_uri e
supplier_is e text rest b is = b.begins ∙ ap (λ (x : List ℕ). tag_start ++ supplier_text x) is ∙ sym (supplier_uri_is e)
