-- The pieces of a key's text, written and read.
use Rattle.std.proofs.Common.{◌≡◌, ℕ, suc, ◌+◌, ◌-◌, ◌<◌, ◌≤◌, Bool, true, false, cond, List, [], ◌∷◌, ◌++◌, length, take, drop, Option, Some, None, refl, sym, ap, ◌∙◌, subst, arith, inl, inr, length-append, append_assoc}
use Rattle.std.specs.Prelude.{◌⊎◌}
use Rattle.std.specs.Borrow.{Bor}
use Rattle.std.specs.List.{concat, join_with_byte}
use Rattle.std.proofs.lemmas.List.{take_at, drop_at, take-append-drop, length-take-le, length-drop}
use Rattle.tag_epc.specs.declared.kind.Kind.{Kind}
use Rattle.tag_epc.specs.declared.kind.Kind.TheVariants.{Gid}
use Rattle.tag_epc.specs.declared.epc.Parts.{Parts}
use Rattle.tag_epc.specs.declared.epc.Parts.TheVariants.{Partitioned}
use Rattle.tag_epc.specs.LawfulWord.{IsLawfulEpc, kind_of_parts}
use Rattle.tag_uri.specs.Calls.Decimal.{AreDigits}
use Rattle.tag_uri.specs.TagText.{components, components_of}
use Rattle.tag_uri.proofs.ComponentLemmas.{joined, some_component}
use Rattle.tag_keys.specs.declared.spelling.Spelling.{Spelling}
use Rattle.tag_keys.specs.declared.spelling.Spelling.TheVariants.{Element, Link, Named}
use Rattle.tag_keys.specs.CheckDigit.{is_checked, check_digit, with_check_digit}
use Rattle.tag_keys.specs.KeyText.{KeyForm, SerialForm, Absent, Joined, Marked, MarkedUnlessZero, is_zero, key_form, serial_text, key_digits, key_of, IsKeyText}
use Rattle.tag_keys.specs.KeyFaults.{AreSerials, ReadsKey}
use Rattle.tag_keys.specs.Private.Pieces.{components_after, one_text}
use Rattle.tag_keys.proofs.CheckLemmas.{only_check}
use Rattle.tag_keys.proofs.FormLemmas.{same_some, sizes_of}
use Rattle.tag_keys.proofs.PieceLemmas.{digits_both, digits_parts, zero_is, length-with_check, length-key_digits}
use Rattle.tag_keys.proofs.KeyLaws.{EpcReads, partitioned_reads}

-- ---- written

pub none_is_gid : (s : Spelling) (k : Kind) → key_form s k ≡ None → k ≡ Gid
none_is_gid s Gid e = refl
none_is_gid Element _ e = cc
none_is_gid Link _ e = cc
none_is_gid Named _ e = cc

-- no component or one
shape : (f : SerialForm) (s : List (List ℕ)) → AreSerials f s → (s ≡ []) ⊎ ((x : List ℕ) × (s ≡ x ∷ []))
shape Absent s h = inl h
shape Joined s h = inr (h.0, h.1)
shape (Marked m) s h = inr (h.0, h.1)
shape (MarkedUnlessZero m) s h = inr (h.0, h.1)

after_is : (o : Option (Bor (List ℕ))) (s : List (List ℕ)) → (s ≡ []) ⊎ ((x : List ℕ) × (s ≡ x ∷ [])) → components_after o ≡ s → one_text o ≡ s
after_is None s h e = e
after_is (Some rest) s (inl none) e =
    let some = some_component rest.now in
    let l : length (components rest.now) ≡ 0 = ap length (e ∙ none) in
    absurd (omega (arith, some, l))
after_is (Some rest) s (inr (x, is)) e =
    let same : rest.now ≡ x = sym (joined rest.now) ∙ ap (join_with_byte 46) (e ∙ is) in
    ap (λ (t : List ℕ). t ∷ []) same ∙ sym is

-- what the components of a tag URI say
pub record Facts (s : Spelling) (epc : Parts) (form : KeyForm) (first second third : List ℕ) (others : Option (Bor (List ℕ))) : Type 0 where
  pub second_digits : AreDigits second
  pub third_digits : AreDigits third
  pub lead : form.lead ≤ length third
  pub whole : length second + length third ≤ 17
  pub start : length form.start ≤ 25
  pub serial : length (serial_text form.serial (one_text others)) ≤ 30
  pub components_are : components_of epc ≡ first ∷ second ∷ third ∷ one_text others

facts_at : (s : Spelling) (f k : ℕ) (epc : Parts) (text : List ℕ) (first second third : List ℕ) (others : Option (Bor (List ℕ))) (p : EpcReads s f k epc text) → components_of epc ≡ first ∷ second ∷ third ∷ components_after others → Facts s epc p.reads.form first second third others
facts_at s f k epc text first second third others p e =
    let same = sym p.is ∙ e in
    let e2 : p.company ≡ second = cc in
    let e3 : p.reference ≡ third = cc in
    let e4 : p.serials ≡ components_after others = cc in
    let after : one_text others ≡ p.serials = after_is others p.serials (shape p.reads.form.serial p.serials p.reads.serial) (sym e4) in
    let sizes = sizes_of s (kind_of_parts epc) p.reads.form p.reads.known in
    let digits = sizes.digits in
    let whole = p.reads.whole in
    record {
      second_digits = subst AreDigits e2 p.reads.company_digits;
      third_digits = subst AreDigits e3 p.reads.reference_digits;
      lead = subst (λ (t : List ℕ). p.reads.form.lead ≤ length t) e3 p.lead;
      whole = let l2 : length p.company ≡ length second = ap length e2 in let l3 : length p.reference ≡ length third = ap length e3 in omega (arith, l2, l3, digits, whole);
      start = sizes.start;
      serial = subst (λ (t : List (List ℕ)). length (serial_text p.reads.form.serial t) ≤ 30) (sym after) p.few;
      components_are = e ∙ ap (λ (t : List (List ℕ)). first ∷ second ∷ third ∷ t) (sym e4 ∙ sym after);
    }

pub facts : (s : Spelling) (epc : Parts) (kind : Kind) (f k c r last : ℕ) (form : KeyForm) (numbers first second third : List ℕ) (others : Option (Bor (List ℕ))) → IsLawfulEpc epc → epc ≡ Partitioned kind f k c r last → key_form s kind ≡ Some form
    → components numbers ≡ components_of epc → components numbers ≡ first ∷ second ∷ third ∷ components_after others → Facts s epc form first second third others
facts s epc kind f k c r last form numbers first second third others h e known same split =
    let there : IsLawfulEpc (Partitioned kind f k c r last) = subst IsLawfulEpc e h in
    let p = partitioned_reads s kind f k c r last _ there.has.layout form there.has.scheme known there refl in
    let one : p.reads.form ≡ form = same_some p.reads.form form (sym p.reads.known ∙ known) in
    let at : Facts s (Partitioned kind f k c r last) form first second third others =
    subst (λ (g : KeyForm). Facts s (Partitioned kind f k c r last) g first second third others) one (facts_at s f k (Partitioned kind f k c r last) _ first second third others p (ap components_of (sym e) ∙ sym same ∙ split)) in
    subst (λ (x : Parts). Facts s x form first second third others) (sym e) at

-- there are three components or more
pub many : (s : Spelling) (epc : Parts) (kind : Kind) (f k c r last : ℕ) (form : KeyForm) (numbers : List ℕ) → IsLawfulEpc epc → epc ≡ Partitioned kind f k c r last → key_form s kind ≡ Some form → components numbers ≡ components_of epc → 3 ≤ length (components numbers)
many s epc kind f k c r last form numbers h e known same =
    let there : IsLawfulEpc (Partitioned kind f k c r last) = subst IsLawfulEpc e h in
    let p = partitioned_reads s kind f k c r last _ there.has.layout form there.has.scheme known there refl in
    let l : length (components numbers) ≡ suc (suc (suc (length p.serials))) = ap length (same ∙ ap components_of e ∙ p.is) in
    omega (arith, l)

pub key_written : (s : Spelling) (epc : Parts) (kind : Kind) (form : KeyForm) (first second third : List ℕ) (others : Option (Bor (List ℕ))) (t0 t1 t2 t3 lead rest start : List ℕ) → Facts s epc form first second third others → kind ≡ kind_of_parts epc → key_form s kind ≡ Some form
    → start ≡ form.start → t0 ≡ [] → t1 ≡ t0 ++ start → lead ≡ take form.lead third → rest ≡ drop form.lead third → t2 ≡ t1 ++ with_check_digit (lead ++ (second ++ rest)) → t3 ≡ t2 ++ serial_text form.serial (one_text others) → IsKeyText s epc t3
key_written s epc kind form first second third others t0 t1 t2 t3 lead rest start p k known b e0 e1 l r e2 e3 =
    let body : lead ++ (second ++ rest) ≡ key_digits form.lead second third = ap (λ (x : List ℕ). x ++ (second ++ rest)) l ∙ ap (λ (x : List ℕ). take form.lead third ++ (second ++ x)) r in
    let front : t1 ≡ form.start = e1 ∙ ap (λ (x : List ℕ). x ++ start) e0 ∙ b in
    let two : t2 ≡ form.start ++ with_check_digit (key_digits form.lead second third) = e2 ∙ ap (λ (x : List ℕ). x ++ with_check_digit (lead ++ (second ++ rest))) front ∙ ap (λ (x : List ℕ). form.start ++ with_check_digit x) body in
    let three : t3 ≡ form.start ++ (with_check_digit (key_digits form.lead second third) ++ serial_text form.serial (one_text others)) =
    e3 ∙ ap (λ (x : List ℕ). x ++ serial_text form.serial (one_text others)) two ∙ append_assoc form.start (with_check_digit (key_digits form.lead second third)) (serial_text form.serial (one_text others)) in
    record { form = form; known = ap (key_form s) (sym k) ∙ known; written = three ∙ ap (key_of form) (sym p.components_are) }

-- ---- read

single : (x : List ℕ) → length x ≡ 1 → (c : ℕ) × (x ≡ c ∷ [])
single [] h = absurd (omega arith)
single (c ∷ []) h = (c, refl)
single (c ∷ d ∷ cs) h = absurd (omega arith)

-- the last of some digits is behind the others
last_digit : (x : List ℕ) → 0 < length x → (c : ℕ) × (x ≡ take (length x - 1) x ++ c ∷ [])
last_digit x some =
    let long : length (drop (length x - 1) x) ≡ 1 = omega (arith, length-drop (length x - 1) x) in
    let s = single (drop (length x - 1) x) long in
    (s.0, sym (take-append-drop (length x - 1) x) ∙ ap (λ (t : List ℕ). take (length x - 1) x ++ t) s.1)

turned : (d o1 o2 l c r x : List ℕ) → d ≡ l ++ o1 → o1 ≡ c ++ o2 → o2 ≡ r ++ x → d ≡ (l ++ (c ++ r)) ++ x
turned d o1 o2 l c r x p q w = rw (p, q, w) (simp append_assoc refl)

pub reads_key : (s : Spelling) (n : ℕ) (text : List ℕ) (kind : Kind) (form : KeyForm) (rest digits tail l o1 c o2 r : List ℕ) (serials : List (List ℕ)) → key_form s kind ≡ Some form → text ≡ form.start ++ rest → form.digits ≤ length rest → n ≤ 12
    → digits ≡ take form.digits rest → tail ≡ drop form.digits rest → AreDigits digits → is_checked digits ≡ true → AreSerials form.serial serials → tail ≡ serial_text form.serial serials
    → l ≡ take form.lead digits → o1 ≡ drop form.lead digits → length l ≡ form.lead → c ≡ take n o1 → o2 ≡ drop n o1 → length c ≡ n → r ≡ take (length o2 - 1) o2 → ReadsKey s n text kind c (l ++ r) serials
reads_key s n text kind form rest digits tail l o1 c o2 r serials known begins enough few front back are checked serial written el eo long_l ec eo2 long_c er =
    let sizes = sizes_of s kind form known in
    let room = sizes.room in
    let long : length digits ≡ form.digits = ap length front ∙ length-take-le form.digits rest enough in
    let d_is : digits ≡ l ++ o1 = sym (take-append-drop form.lead digits) ∙ ap (λ (x : List ℕ). x ++ drop form.lead digits) (sym el) ∙ ap (λ (x : List ℕ). l ++ x) (sym eo) in
    let o1_is : o1 ≡ c ++ o2 = sym (take-append-drop n o1) ∙ ap (λ (x : List ℕ). x ++ drop n o1) (sym ec) ∙ ap (λ (x : List ℕ). c ++ x) (sym eo2) in
    let long_d : length digits ≡ length l + length o1 = ap length d_is ∙ length-append l o1 in
    let long_o1 : length o1 ≡ length c + length o2 = ap length o1_is ∙ length-append c o2 in
    let some : 0 < length o2 = omega (arith, long, long_d, long_o1, long_l, long_c, room, few) in
    let z = last_digit o2 some in
    let o2_is : o2 ≡ r ++ z.0 ∷ [] = z.1 ∙ ap (λ (x : List ℕ). x ++ z.0 ∷ []) (sym er) in
    let long_o2 : length o2 ≡ length r + 1 = ap length o2_is ∙ length-append r (z.0 ∷ []) in
    let k : List ℕ = l ++ (c ++ r) in
    let whole : digits ≡ k ++ z.0 ∷ [] = turned digits o1 o2 l c r (z.0 ∷ []) d_is o1_is o2_is in
    let parts = digits_parts k (z.0 ∷ []) (subst AreDigits whole are) in
    let parts_l = digits_parts l (c ++ r) parts.0 in
    let parts_c = digits_parts c r parts_l.1 in
    let check : z.0 ≡ check_digit k = only_check k z.0 parts.1.0 (subst (λ (x : List ℕ). is_checked x ≡ true) whole checked) in
    let with_check : digits ≡ with_check_digit k = whole ∙ ap (λ (x : ℕ). k ++ x ∷ []) check in
    let lead_is : take form.lead (l ++ r) ≡ l = take_at l r form.lead long_l in
    let rest_is : drop form.lead (l ++ r) ≡ r = drop_at l r form.lead long_l in
    let key_is : key_digits form.lead c (l ++ r) ≡ k = ap (λ (x : List ℕ). x ++ (c ++ drop form.lead (l ++ r))) lead_is ∙ ap (λ (x : List ℕ). l ++ (c ++ x)) rest_is in
    let split : rest ≡ digits ++ tail = sym (take-append-drop form.digits rest) ∙ ap (λ (x : List ℕ). x ++ drop form.digits rest) (sym front) ∙ ap (λ (x : List ℕ). digits ++ x) (sym back) in
    let there : rest ≡ with_check_digit (key_digits form.lead c (l ++ r)) ++ serial_text form.serial serials =
    split ∙ ap (λ (x : List ℕ). x ++ tail) (with_check ∙ ap with_check_digit (sym key_is)) ∙ ap (λ (x : List ℕ). with_check_digit (key_digits form.lead c (l ++ r)) ++ x) written in
    record {
      form = form;
      known = known;
      written = begins ∙ ap (λ (x : List ℕ). form.start ++ x) there;
      counted = long_c;
      whole = omega (arith, long, long_d, long_o1, long_o2, long_l, length-append l r);
      company_digits = parts_c.0;
      reference_digits = digits_both l r parts_l.0 parts_c.1;
      serial = serial;
    }

-- ---- room for the tag URI

pub few_digits : (s : Spelling) (n : ℕ) (text : List ℕ) (kind : Kind) (c l r : List ℕ) (x : List (List ℕ)) → ReadsKey s n text kind c (l ++ r) x → length c + length l + length r ≤ 32
few_digits s n text kind c l r x p = let z = sizes_of s kind p.form p.known in let d = z.digits in let w = p.whole in omega (arith, d, w, length-append l r)

one_long : (x : List (List ℕ)) (t : List ℕ) → x ≡ t ∷ [] → length (concat x) ≡ length t
one_long x t e = ap (λ (y : List (List ℕ)). length (concat y)) e ∙ (let a = length-append t [] in omega (arith, a))

unless_long : (b : Bool) (m t : List ℕ) → is_zero t ≡ b → length t ≤ length (cond b [] (m ++ t)) + 1
unless_long true m t e = let one : length t ≡ 1 = ap length (zero_is t e) in omega (arith, one)
unless_long false m t e = omega (arith, length-append m t)

serial_long : (f : SerialForm) (x : List (List ℕ)) → AreSerials f x → length (concat x) ≤ length (serial_text f x) + 1
serial_long Absent x h = let e : length (concat x) ≡ 0 = ap (λ (y : List (List ℕ)). length (concat y)) h in omega (arith, e)
serial_long Joined x h = let e = one_long x h.0 h.1 in let l : length (serial_text Joined x) ≡ length h.0 = ap (λ (y : List (List ℕ)). length (serial_text Joined y)) h.1 in omega (arith, e, l)
serial_long (Marked m) x h = let e = one_long x h.0 h.1 in let l : length (serial_text (Marked m) x) ≡ length (m ++ h.0) = ap (λ (y : List (List ℕ)). length (serial_text (Marked m) y)) h.1 in omega (arith, e, l, length-append m h.0)
serial_long (MarkedUnlessZero m) x h = let e = one_long x h.0 h.1 in let l = ap (λ (y : List (List ℕ)). length (serial_text (MarkedUnlessZero m) y)) h.1 in omega (arith, e, l, unless_long (is_zero h.0) m h.0 refl)

pub short_serial : (s : Spelling) (n : ℕ) (text : List ℕ) (kind : Kind) (c r : List ℕ) (x : List (List ℕ)) → ReadsKey s n text kind c r x → length text ≤ 96 → length (concat x) ≤ 96
short_serial s n text kind c r x p short =
    let z = sizes_of s kind p.form p.known in
    let room = z.room in
    let w = p.whole in
    let k : List ℕ = key_digits p.form.lead c r in
    let e : length text ≡ length (p.form.start ++ (with_check_digit k ++ serial_text p.form.serial x)) = ap length p.written in
    omega (arith, e, room, w, serial_long p.form.serial x p.serial, length-append p.form.start (with_check_digit k ++ serial_text p.form.serial x), length-append (with_check_digit k) (serial_text p.form.serial x), length-with_check k, length-key_digits p.form.lead c r, short)
