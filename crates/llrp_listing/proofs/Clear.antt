-- Each line says one thing or is refused for one reason, and never both.
use Rattle.std.proofs.Common.{◌≡◌, ℕ, ◌+◌, ◌-◌, ◌*◌, ◌^◌, ◌<◌, ◌≤◌, inl, inr, List, [], ◌∷◌, ◌++◌, map, length, drop, get_or, Result, Ok, refl, sym, ap, subst, ◌∙◌, arith, decimal, length-append}
use Rattle.std.specs.Prelude.{◌==◌}
use Rattle.std.specs.List.{slice_split, join_with_byte}
use Rattle.hex.specs.Hex.{encode_lower, decode_of}
use Rattle.hex.specs.declared.error.FromHexError.{FromHexError}
use Rattle.hex.proofs.HexLemmas.{decode_of-encode_lower}
use Rattle.llrp_schema.specs.declared.kinds.KindSet.{KindSet}
use Rattle.llrp_schema.specs.declared.kinds.Kind.{Kind}
use Rattle.llrp_schema.specs.declared.kinds.Kind.TheVariants.{Message, Parameter}
use Rattle.llrp_schema.specs.declared.kinds.Tail.{Tail}
use Rattle.llrp_schema.specs.declared.kinds.Tail.TheVariants.{Absent, Words, Text, Bits, Data}
use Rattle.llrp_schema.specs.Schema.{name_of, tail_of}
use Rattle.llrp_schema.proofs.TableLaws.{names_in}
use Rattle.llrp_tree.specs.Lawful.{AreOctets}
use Rattle.tag_uri.proofs.TextLaws.{one_fault, words_apart}
use Rattle.llrp_listing.specs.declared.outcome.Refusal.{Refusal}
use Rattle.llrp_listing.specs.declared.outcome.Refusal.TheVariants as refusal
use Rattle.llrp_listing.specs.OrderedChecks.{LineCheck, FirstFailing, AllHold}
use Rattle.llrp_listing.specs.Private.FirstRefusal.{AreClear}
use Rattle.llrp_listing.specs.LineChecks.{word, IsInForm, AreInForm, IsTailOf, SaysNode, SaysLine, IsName, IsNamed, start_checks, tail_count, word_count, TellsNumber, tail_word_checks, body_checks, name_checks, RefusesLineItself}
use Rattle.llrp_listing.specs.Lines.{TextLine, Ended, Unended}
use Rattle.llrp_listing.specs.ListingRules.{rules_for}
use Rattle.llrp_tree.specs.Tree.{words_of}
use Rattle.llrp_listing.specs.NodeLine.{NodeLine, NumberForm, Version, Id, Unsigned, Signed, Epc, number_forms, signed_text, IsNumberText, AreNumberTexts, tail_texts}
use Rattle.llrp_listing.specs.Lines.{words}
use Rattle.llrp_listing.proofs.BodyWords.{texts_length}
use Rattle.llrp_listing.proofs.DecimalWords.{digits_of, one_number}
use Rattle.llrp_listing.proofs.LineShape.{rest_words, said_words, said_printed}
use Rattle.llrp_listing.proofs.LineWords.{named_name}
use Rattle.llrp_listing.proofs.NumberWords.{no_minus, sides, signed_positive, signed_negative, version_small}
use Rattle.llrp_listing.proofs.TailWords.{AreSmall, bytes_fit, joined_parts, words_small}

-- ---- checks

-- each check has one reason
abbrev AllTellOne : List (LineCheck Refusal) → Type 0
AllTellOne [] = Unit {0}
AllTellOne (c ∷ cs) = ((a b : Refusal) → c.Tells a → c.Tells b → a ≡ b) × AllTellOne cs

none_failing : (cs : List (LineCheck Refusal)) (r : Refusal) → AllHold cs → FirstFailing cs r → ⊥
none_failing [] r h f = f
none_failing (c ∷ cs) r h f = elim f [ inl g ↦ g.0 h.0 | inr g ↦ none_failing cs r h.1 g.1 ]

one_failing : (cs : List (LineCheck Refusal)) (a b : Refusal) → AllTellOne cs → FirstFailing cs a → FirstFailing cs b → a ≡ b
one_failing [] a b t f g = absurd f
one_failing (c ∷ cs) a b t f g = elim f [
  | inl p ↦ elim g [ inl q ↦ t.0 a b p.1 q.1 | inr q ↦ absurd (p.0 q.0) ]
  | inr p ↦ elim g [ inl q ↦ absurd (q.0 p.0) | inr q ↦ one_failing cs a b t.1 p.1 q.1 ]
]

one_told : (r a b : Refusal) → a ≡ r → b ≡ r → a ≡ b
one_told r a b p q = p ∙ sym q

number_tells : (f : NumberForm) (w : List ℕ) (a b : Refusal) → TellsNumber f w a → TellsNumber f w b → a ≡ b
number_tells Version w a b p q = one_told refusal.Number a b p q
number_tells Id w a b p q = one_told refusal.Number a b p q
number_tells Unsigned w a b p q = one_told refusal.Number a b p q
number_tells Signed w a b p q = one_told refusal.Number a b p q
number_tells Epc w a b p q = p.1 ∙ ap refusal.Epc (one_fault w p.0 q.0 p.2 q.2) ∙ sym q.1

body_tells : (fs : List NumberForm) (form : Tail) (ws : List (List ℕ)) → AllTellOne (body_checks fs form ws)
body_tells [] form [] = tt
body_tells [] form (w ∷ ws) = (one_told refusal.Tail, tt)
body_tells (f ∷ fs) form [] = tt
body_tells (f ∷ fs) form (w ∷ ws) = (number_tells f w, body_tells fs form ws)

start_tells : (p : KindSet) (d : ℕ) (bytes : List ℕ) → AllTellOne (start_checks p d bytes)
start_tells p d bytes = (one_told refusal.Line, (one_told refusal.Level, (one_told refusal.Name, tt)))

-- ---- the words that a line says

one_kind : (p : KindSet) (ws : List (List ℕ)) (a b : Kind) → IsNamed p ws a → IsNamed p ws b → a ≡ b
one_kind p ws a b m n = on (name ws a m) (name ws b n)
  where
    name : (ws : List (List ℕ)) (k : Kind) → IsNamed p ws k → IsName p (word ws 1) k
    name ws (Message kind) h = h.1
    name ws (Parameter kind) h = h.1

    on : IsName p (word ws 1) a → IsName p (word ws 1) b → a ≡ b
    on h k = names_in a b (h.0 ∙ sym k.0) (sym h.1 ∙ k.1)

body_holds : (fs : List NumberForm) (form : Tail) (ns : List ℕ) (ws : List (List ℕ)) (tail : List ℕ) → AreInForm fs ns → AreNumberTexts fs ns ws → IsTailOf form tail → AllHold (body_checks fs form (ws ++ tail_texts form tail))
body_holds [] form [] [] tail p h t = on form t
  where
    on : (form : Tail) → IsTailOf form tail → AllHold (tail_word_checks form (tail_texts form tail))
    on Absent t = tt
    on Words t = ((tail, t, refl), tt)
    on Text t = ((tail, t, refl), tt)
    on Bits t = ((tail, t, refl), tt)
    on Data t = ((tail, t, refl), tt)
body_holds [] form [] (w ∷ ws) tail p h t = absurd h
body_holds [] form (n ∷ ns) ws tail p h t = absurd h
body_holds (f ∷ fs) form [] ws tail p h t = absurd h
body_holds (f ∷ fs) form (n ∷ ns) [] tail p h t = absurd h
body_holds (f ∷ fs) form (n ∷ ns) (w ∷ ws) tail p h t = ((n, p.0, h.0), body_holds fs form ns ws tail p.1 h.1 t)

tail_length : (form : Tail) (tail : List ℕ) → length (tail_texts form tail) ≡ tail_count form
tail_length Absent tail = refl
tail_length Words tail = refl
tail_length Text tail = refl
tail_length Bits tail = refl
tail_length Data tail = refl

-- a line that says something passes all checks
record Holds (p : KindSet) (d : ℕ) (bytes : List ℕ) (kind : Kind) : Type 0 where
  starts : AllHold (start_checks p d bytes)
  named : IsNamed p (words bytes) kind
  body : AllHold (name_checks kind (words bytes))

said_holds : {p : KindSet} (d : ℕ) (bytes : List ℕ) (level : ℕ) (line : NodeLine) → SaysNode p bytes level line → level ≤ d → Holds p d bytes line.kind
said_holds {p} d bytes level line s le =
    let texts = s.text.numbers in
    let ws = said_words bytes level line s in
    let named : IsNamed p (words bytes) line.kind = subst (λ (z : List (List ℕ)). IsNamed p z line.kind) (sym ws) (named_name level (decimal level) (name_of line.kind) (texts ++ tail_texts (tail_of line.kind) line.tail) line.kind refl s.deep s.placed (s.own, refl)) in
    let count : length (words bytes) ≡ word_count line.kind = omega (arith, ap length ws, length-append texts (tail_texts (tail_of line.kind) line.tail), texts_length (number_forms line.kind) line.numbers texts s.text.are, tail_length (tail_of line.kind) line.tail) in
    record {
      starts = ((s.short, said_printed bytes level line s), ((level, ap (λ (z : List (List ℕ)). word z 0) ws, s.deep, le), ((line.kind, named), tt)));
      named = named;
      body = (count, subst (λ (z : List (List ℕ)). AllHold (body_checks (number_forms line.kind) (tail_of line.kind) (drop 2 z))) (sym ws) (body_holds (number_forms line.kind) (tail_of line.kind) line.numbers texts line.tail s.numbers s.text.are s.tail));
    }

not_both : (p : KindSet) (d : ℕ) (x : TextLine) (e : ℕ × NodeLine) (a : Refusal) → SaysLine p x e → e.0 ≤ d → RefusesLineItself p d x a → ⊥
not_both p d (Unended bytes) e a s le r = s
not_both p d (Ended bytes) e a s le r =
    let h = said_holds d bytes e.0 e.1 s le in
    elim r [
      | inl start ↦ none_failing (start_checks p d bytes) a h.starts start
      | inr body ↦ (let same : body.kind ≡ e.1.kind = one_kind p (words bytes) body.kind e.1.kind body.named h.named in none_failing (name_checks e.1.kind (words bytes)) a h.body (subst (λ (k : Kind). FirstFailing (name_checks k (words bytes)) a) same body.fails))
    ]

one_reason : (p : KindSet) (d : ℕ) (x : TextLine) (a b : Refusal) → RefusesLineItself p d x a → RefusesLineItself p d x b → a ≡ b
one_reason p d (Unended bytes) a b l r = l ∙ sym r
one_reason p d (Ended bytes) a b l r = elim l [
  | inl f ↦ elim r [ inl g ↦ one_failing (start_checks p d bytes) a b (start_tells p d bytes) f g | inr g ↦ absurd (none_failing (start_checks p d bytes) a g.starts f) ]
  | inr f ↦ elim r [
    | inl g ↦ absurd (none_failing (start_checks p d bytes) b f.starts g)
    | inr g ↦ (let same : g.kind ≡ f.kind = one_kind p (words bytes) g.kind f.kind g.named f.named in
        one_failing (name_checks f.kind (words bytes)) a b (one_told refusal.Fields, body_tells (number_forms f.kind) (tail_of f.kind) (drop 2 (words bytes))) f.fails (subst (λ (k : Kind). FirstFailing (name_checks k (words bytes)) b) same g.fails))
  ]
]

-- ---- one thing is said

signed_same : (m n : ℕ) → m < 2 ^ 8 → n < 2 ^ 8 → signed_text m ≡ signed_text n → m ≡ n
signed_same m n p q e = elim (sides m) [
  | inl a ↦ elim (sides n) [
    | inl b ↦ one_number m n (omega arith) (omega arith) (sym (signed_positive m a) ∙ e ∙ signed_positive n b)
    | inr b ↦ absurd (no_minus m a (decimal (256 - n)) (sym (signed_negative n b) ∙ sym e ∙ signed_positive m a))
  ]
  | inr a ↦ elim (sides n) [
    | inl b ↦ absurd (no_minus n b (decimal (256 - m)) (sym (signed_negative m a) ∙ e ∙ signed_positive n b))
    | inr b ↦ (let t : 45 ∷ decimal (256 - m) ≡ 45 ∷ decimal (256 - n) = sym (signed_negative m a) ∙ e ∙ signed_negative n b in
        let u : 256 - m ≡ 256 - n = one_number (256 - m) (256 - n) (omega arith) (omega arith) (ap (drop 1) t) in omega arith)
  ]
]

one_form : (f : NumberForm) (m n : ℕ) (w : List ℕ) → IsInForm f m → IsInForm f n → IsNumberText f m w → IsNumberText f n w → m ≡ n
one_form Version m n w p q h k = one_number m n (version_small m p) (version_small n q) (sym h ∙ k)
one_form Id m n w p q h k = one_number m n (omega (arith, p)) (omega (arith, q)) (sym h ∙ k)
one_form Unsigned m n w p q h k = one_number m n p q (sym h ∙ k)
one_form Signed m n w p q h k = signed_same m n p q (sym h ∙ k)
one_form Epc m n w p q h k = words_apart m n w p q h k

numbers_same : (ms ns : List ℕ) → AreSmall ms → AreSmall ns → map decimal ms ≡ map decimal ns → ms ≡ ns
numbers_same [] [] p q e = refl
numbers_same [] (n ∷ ns) p q e = cc
numbers_same (m ∷ ms) [] p q e = cc
numbers_same (m ∷ ms) (n ∷ ns) p q e =
    let a : decimal m ≡ decimal n = cc in
    let b : map decimal ms ≡ map decimal ns = cc in
    let h : m ≡ n = one_number m n (omega (arith, p.0)) (omega (arith, q.0)) a in
    rw h (ap (λ (z : List ℕ). n ∷ z) (numbers_same ms ns p.1 q.1 b))

octets_same : (os us : List ℕ) → AreOctets os → AreOctets us → (n m : ℕ) → length os ≡ 2 * n → length us ≡ 2 * m → words_of os ≡ words_of us → os ≡ us
octets_same [] [] p q n m x y e = refl
octets_same [] (b ∷ []) p q n m x y e = absurd (omega arith)
octets_same [] (b ∷ c ∷ us) p q n m x y e = cc
octets_same (a ∷ []) us p q n m x y e = absurd (omega arith)
octets_same (a ∷ b ∷ os) [] p q n m x y e = cc
octets_same (a ∷ b ∷ os) (c ∷ []) p q n m x y e = absurd (omega arith)
octets_same (a ∷ b ∷ os) (c ∷ d ∷ us) p q n m x y e =
    let f : 256 * a + b ≡ 256 * c + d = cc in
    let g : words_of os ≡ words_of us = cc in
    let h : a ≡ c = omega (arith, p.0, p.1.0, q.0, q.1.0, f) in
    let i : b ≡ d = omega (arith, p.0, p.1.0, q.0, q.1.0, f) in
    rw (h, i) (ap (λ (z : List ℕ). c ∷ d ∷ z) (octets_same os us p.1.1 q.1.1 (n - 1) (m - 1) (omega arith) (omega arith) g))

empty_word : (n : ℕ) (ws : List (List ℕ)) → n < 2 ^ 16 → [] ∷ [] ≡ decimal n ∷ ws → ⊥
empty_word n ws lt e = let d = digits_of n (omega arith) in absurd (omega (arith, d.some, ap (λ (z : List (List ℕ)). length (get_or z 0 [])) e))

join_same : (ms ns : List ℕ) → AreSmall ms → AreSmall ns → join_with_byte 44 (map decimal ms) ≡ join_with_byte 44 (map decimal ns) → ms ≡ ns
join_same [] [] p q e = refl
join_same [] (n ∷ ns) p q e = let t = ap (slice_split (λ b. b == 44)) e ∙ joined_parts n ns q in absurd (empty_word n (map decimal ns) q.0 t)
join_same (m ∷ ms) [] p q e = let t = ap (slice_split (λ b. b == 44)) (sym e) ∙ joined_parts m ms p in absurd (empty_word m (map decimal ms) p.0 t)
join_same (m ∷ ms) (n ∷ ns) p q e = numbers_same (m ∷ ms) (n ∷ ns) p q (sym (joined_parts m ms p) ∙ ap (slice_split (λ b. b == 44)) e ∙ joined_parts n ns q)

lower_same : (os us : List ℕ) → AreOctets os → AreOctets us → encode_lower os ≡ encode_lower us → os ≡ us
lower_same os us p q e =
    let t : ◌≡◌ {A = Result (List ℕ) FromHexError} (Ok os) (Ok us) = sym (decode_of-encode_lower os (bytes_fit os p)) ∙ ap decode_of e ∙ decode_of-encode_lower us (bytes_fit us q) in
    cc

tail_same : (form : Tail) (t u : List ℕ) → IsTailOf form t → IsTailOf form u → tail_texts form t ≡ tail_texts form u → t ≡ u
tail_same Absent t u p q e = p ∙ sym q
tail_same Words t u p q e = octets_same t u p.0 q.0 p.1.0 q.1.0 p.1.1 q.1.1 (join_same (words_of t) (words_of u) (words_small t p.0) (words_small u q.0) (ap (λ (z : List (List ℕ)). drop 1 (get_or z 0 [])) e))
tail_same Text t u p q e = lower_same t u p q (ap (λ (z : List (List ℕ)). drop 1 (get_or z 0 [])) e)
tail_same Bits t u p q e = lower_same t u p q (ap (λ (z : List (List ℕ)). drop 1 (get_or z 0 [])) e)
tail_same Data t u p q e = lower_same t u p q (ap (λ (z : List (List ℕ)). drop 1 (get_or z 0 [])) e)

same_parts : (fs : List NumberForm) (form : Tail) (ms ns : List ℕ) (vs ws : List (List ℕ)) (t u : List ℕ) → AreInForm fs ms → AreInForm fs ns → AreNumberTexts fs ms vs → AreNumberTexts fs ns ws → IsTailOf form t → IsTailOf form u
    → vs ++ tail_texts form t ≡ ws ++ tail_texts form u → (ms ≡ ns) × (t ≡ u)
same_parts [] form [] [] [] [] t u p q h k a b e = (refl, tail_same form t u a b e)
same_parts [] form [] [] [] (w ∷ ws) t u p q h k a b e = absurd k
same_parts [] form [] [] (v ∷ vs) ws t u p q h k a b e = absurd h
same_parts [] form [] (n ∷ ns) vs ws t u p q h k a b e = absurd k
same_parts [] form (m ∷ ms) ns vs ws t u p q h k a b e = absurd h
same_parts (f ∷ fs) form [] ns vs ws t u p q h k a b e = absurd h
same_parts (f ∷ fs) form (m ∷ ms) [] vs ws t u p q h k a b e = absurd k
same_parts (f ∷ fs) form (m ∷ ms) (n ∷ ns) [] ws t u p q h k a b e = absurd h
same_parts (f ∷ fs) form (m ∷ ms) (n ∷ ns) (v ∷ vs) [] t u p q h k a b e = absurd k
same_parts (f ∷ fs) form (m ∷ ms) (n ∷ ns) (v ∷ vs) (w ∷ ws) t u p q h k a b e =
    let x : v ≡ w = cc in
    let y : vs ++ tail_texts form t ≡ ws ++ tail_texts form u = cc in
    let one : m ≡ n = one_form f m n w p.0 q.0 (subst (IsNumberText f m) x h.0) k.0 in
    let rest = same_parts fs form ms ns vs ws t u p.1 q.1 h.1 k.1 a b y in
    (rw one (ap (λ (z : List ℕ). n ∷ z) rest.0), rest.1)

one_said : (set : KindSet) (x : TextLine) (e f : ℕ × NodeLine) → SaysLine set x e → SaysLine set x f → e ≡ f
one_said set (Unended bytes) e f p q = absurd p
one_said set (Ended bytes) e f p q =
    let a = e.1 in
    let b = f.1 in
    let all : decimal e.0 ∷ rest_words a p.text.numbers ≡ decimal f.0 ∷ rest_words b q.text.numbers = sym (said_words bytes e.0 a p) ∙ said_words bytes f.0 b q in
    let l : decimal e.0 ≡ decimal f.0 = ap (λ (z : List (List ℕ)). get_or z 0 []) all in
    let n : name_of a.kind ≡ name_of b.kind = ap (λ (z : List (List ℕ)). get_or z 1 []) all in
    let rest : p.text.numbers ++ tail_texts (tail_of a.kind) a.tail ≡ q.text.numbers ++ tail_texts (tail_of b.kind) b.tail = ap (drop 2) all in
    let level : e.0 ≡ f.0 = one_number e.0 f.0 (omega (arith, p.deep)) (omega (arith, q.deep)) l in
    let kind : a.kind ≡ b.kind = names_in a.kind b.kind (p.own ∙ sym q.own) n in
    let parts = same_parts (number_forms b.kind) (tail_of b.kind) a.numbers b.numbers p.text.numbers q.text.numbers a.tail b.tail
    (subst (λ (k : Kind). AreInForm (number_forms k) a.numbers) kind p.numbers) q.numbers
    (subst (λ (k : Kind). AreNumberTexts (number_forms k) a.numbers p.text.numbers) kind p.text.are) q.text.are
    (subst (λ (k : Kind). IsTailOf (tail_of k) a.tail) kind p.tail) q.tail
    (subst (λ (k : Kind). p.text.numbers ++ tail_texts (tail_of k) a.tail ≡ q.text.numbers ++ tail_texts (tail_of b.kind) b.tail) kind rest) in
    let same : a ≡ b = ap (λ (k : Kind). record a { kind = k }) kind ∙ ap (λ (ns : List ℕ). record b { numbers = ns; tail = a.tail }) parts.0 ∙ ap (λ (t : List ℕ). record b { tail = t }) parts.1 in
    ap (λ (l : ℕ). (l, a)) level ∙ ap (λ (z : NodeLine). (f.0, z)) same

-- the rules of lines tell lines apart
pub clear : (p : KindSet) (limit : ℕ) → AreClear (rules_for p limit)
clear p limit = record { one_said = one_said p; one_reason = one_reason p; not_both = not_both p }
