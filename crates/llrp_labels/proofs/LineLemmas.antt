-- The last word of a line, and the word whose text it is.
use Rattle.std.proofs.Common.{◌≡◌, ℕ, zero, suc, ◌+◌, ◌^◌, ◌<◌, ◌≤◌, Bool, true, false, List, [], ◌∷◌, ◌++◌, length, take, drop, get_or, take-append-drop, Some, None, refl, sym, ap, subst, ◌∙◌, arith, inl, inr, append_assoc}
use Rattle.std.proofs.lemmas.List.{append-nil, drop_more}
use Rattle.std.specs.Prelude.{◌⊎◌, ◌==◌, slice_index, codes}
use Rattle.std.specs.Str.{IsUtf8}
use Rattle.std.proofs.lemmas.Bool.{eqb-true}
use Rattle.memchr.specs.Find.{NoneAfter, Passes, is_byte}
use Rattle.tag_uri.proofs.TextLaws.{words_apart, texts_same}
use Rattle.tag_schemes.specs.AllTexts.{IsTextInAll}
use Rattle.tag_schemes.specs.declared.numbers.Numbers.{Numbers}
use Rattle.tag_schemes.specs.declared.supplier.Supplier.{Supplier}
use Rattle.tag_schemes.specs.Suppliers.{supplier_uri}
use Rattle.tag_schemes.specs.Texts.{uri_in}
use Rattle.tag_schemes.proofs.TextLaws.{words_apart_in, same_text_in}
use Rattle.tag_forms.proofs.AllLemmas.{one_text_in_all}
use Rattle.tag_forms.proofs.FormLemmas.{one_text}
use Rattle.tag_schemes.proofs.SupplierTexts.{supplier_uri_is}
use Rattle.tag_schemes.proofs.WriteFacts.{uri_in_is}
use Rattle.tag_forms.specs.Forms.{begins}
use Rattle.tag_forms.specs.declared.form.Form.TheVariants.{Key}
use Rattle.llrp_listing.specs.Calls.Splits.{Lacks}
use Rattle.llrp_listing.proofs.SplitWords.{lacks_not, lacks_append}
use Rattle.llrp_labels.specs.declared.labels.Labels.{Labels}
use Rattle.llrp_labels.specs.LabelledLines.{HasLastWord, IsTextAmong, IsKeyAmong, EndsInWord, IsMark, IsLabelled, IsUri, NoUri, ReadsLine, IsListed}
use Rattle.llrp_labels.proofs.VisibleTexts.{among_utf8, among_visible, visible_lacks}

last_same : (a b x y : List ℕ) → Lacks 32 x → Lacks 32 y → a ++ (32 ∷ x) ≡ b ++ (32 ∷ y) → (a ≡ b) × (x ≡ y)
last_same [] [] x y h k e = (refl, cc)
last_same [] (d ∷ b) x y h k e = absurd (lacks_not 32 x b y h cc)
last_same (c ∷ a) [] x y h k e = absurd (lacks_not 32 y a x k cc)
last_same (c ∷ a) (d ∷ b) x y h k e =
    let first : c ≡ d = cc in
    let more = last_same a b x y h k cc in
    (rw (first, more.0) refl, more.1)

not_true : (b : Bool) → (b ≡ true → ⊥) → b ≡ false
not_true true h = absurd (h refl)
not_true false h = refl

lacks_after : (line : List ℕ) (i : ℕ) → ((j : ℕ) → i ≤ j → j < length line → (slice_index line j == 32) ≡ true → ⊥) → Lacks 32 (drop i line)
lacks_after [] zero h = tt
lacks_after [] (suc i) h = tt
lacks_after (c ∷ line) zero h = (not_true (c == 32) (h 0 (omega arith) (omega arith)), lacks_after line 0 (λ j p q e. h (suc j) (omega arith) (omega (arith, q)) e))
lacks_after (c ∷ line) (suc i) h = lacks_after line i (λ j p q e. h (suc j) (omega (arith, p)) (omega (arith, q)) e)

-- the parts round the last blank
pub found_last : (line front rest word : List ℕ) (k : ℕ) → NoneAfter (Passes (is_byte 32) line) 0 (length line) k → Passes (is_byte 32) line k → front ≡ take k line → rest ≡ drop k line → word ≡ drop 1 rest → HasLastWord line front word
found_last line front rest word k none here e f g =
    let blank : get_or line k 0 ≡ 32 = eqb-true (get_or line k 0) 32 here in
    let cut : drop k line ≡ 32 ∷ drop (k + 1) line = drop_more line k 0 none.high ∙ ap (λ (c : ℕ). c ∷ drop (k + 1) line) blank in
    let is : word ≡ drop (k + 1) line = g ∙ ap (λ (z : List ℕ). drop 1 z) (f ∙ cut) in
    record {
      is = sym (take-append-drop k line) ∙ ap (λ (z : List ℕ). take k line ++ z) (cut ∙ ap (λ (z : List ℕ). 32 ∷ z) (sym is)) ∙ ap (λ (z : List ℕ). z ++ 32 ∷ word) (sym e);
      lacks = subst (λ (z : List ℕ). Lacks 32 z) (sym is) (lacks_after line (k + 1) none.after);
    }

-- a line has one last word
pub one_last : (line a x b y : List ℕ) → HasLastWord line a x → HasLastWord line b y → (a ≡ b) × (x ≡ y)
one_last line a x b y p q = last_same a b x y p.lacks q.lacks (sym p.is ∙ q.is)

-- a line without a blank has none
pub no_last : (line a x : List ℕ) → Lacks 32 line → HasLastWord line a x → ⊥
no_last line a x h p = lacks_not 32 line a x h p.is

-- the last word is the text of the word in which the line ends
pub ends_text : (schemes : Bool) (line a x b : List ℕ) (word : ℕ) → HasLastWord line a x → EndsInWord schemes line b word → IsTextAmong schemes word x
ends_text schemes line a x b word p h = subst (λ (t : List ℕ). IsTextAmong schemes word t) (sym (one_last line a x b h.text p h.last).1) h.is

pub ends_utf8 : (schemes : Bool) (line a x b : List ℕ) (word : ℕ) → HasLastWord line a x → EndsInWord schemes line b word → IsUtf8 x
ends_utf8 schemes line a x b word p h = among_utf8 schemes word x (ends_text schemes line a x b word p h)

pub ends_in : (schemes : Bool) (line a x : List ℕ) (word : ℕ) → HasLastWord line a x → word < 2 ^ 96 → IsTextAmong schemes word x → EndsInWord schemes line a word
ends_in schemes line a x word p below is = record { text = x; last = p; below = below; is = is }

-- the line ends in the text of no word, where its last word is that of none
pub ends_in_none : (schemes : Bool) (line a x b : List ℕ) (word : ℕ) → HasLastWord line a x → ((w : ℕ) → w < 2 ^ 96 → IsTextAmong schemes w x → ⊥) → EndsInWord schemes line b word → ⊥
ends_in_none schemes line a x b word p none h = none word h.below (ends_text schemes line a x b word p h)

-- the last word is no URI
pub no_uri : (line a x b y : List ℕ) → HasLastWord line a x → HasLastWord line b y → (IsUri x → ⊥) → IsUri y → ⊥
no_uri line a x b y p q none h = none (subst (λ (t : List ℕ). IsUri t) (sym (one_last line a x b y p q).1) h)

-- a line ends in the text of one word
pub one_ending : (schemes : Bool) (line a b : List ℕ) (v w : ℕ) → EndsInWord schemes line a v → EndsInWord schemes line b w → (a ≡ b) × (v ≡ w)
one_ending true line a b v w p q =
    let same = one_last line a p.text b q.text p.last q.last in
    (same.0, words_apart_in v w p.text p.below q.below p.is (subst (λ (t : List ℕ). IsTextAmong true w t) (sym same.1) q.is))
one_ending false line a b v w p q =
    let same = one_last line a p.text b q.text p.last q.last in
    (same.0, words_apart v w p.text p.below q.below p.is (subst (λ (t : List ℕ). IsTextAmong false w t) (sym same.1) q.is))

-- ---- labels come off

lacks_front : (byte : ℕ) (a b : List ℕ) → Lacks byte (a ++ b) → Lacks byte a
lacks_front byte [] b h = tt
lacks_front byte (c ∷ a) b h = (h.0, lacks_front byte a b h.1)

uri_begins : (m : Numbers) → begins (uri_in m) (codes "urn:epc:") ≡ true
uri_begins m = rw (uri_in_is m) refl

supplier_uri_begins : (m : Supplier) → begins (supplier_uri m) (codes "urn:epc:") ≡ true
supplier_uri_begins m = rw (supplier_uri_is m) refl

none_among : (schemes : Bool) (line : List ℕ) → IsListed line → ((f : List ℕ) (w : ℕ) → EndsInWord false line f w → ⊥) → (f : List ℕ) (w : ℕ) → EndsInWord schemes line f w → ⊥
none_among false line l none f w h = none f w h
none_among true line l none f w h = further h.is
  where
    further : IsTextInAll w h.text → ⊥
    further (inl a) = l.last none f h.text h.last (among_utf8 true w h.text h.is, subst (λ (t : List ℕ). begins t (codes "urn:epc:") ≡ true) (sym a.2) (uri_begins a.0))
    further (inr (inl a)) = l.last none f h.text h.last (among_utf8 true w h.text h.is, subst (λ (t : List ℕ). begins t (codes "urn:epc:") ≡ true) (sym a.2) (supplier_uri_begins a.0))
    further (inr (inr a)) = none f w (record { text = h.text; last = h.last; below = h.below; is = a.1 })

ends_again : (schemes : Bool) (front text : List ℕ) (word : ℕ) → word < 2 ^ 96 → IsTextAmong schemes word text → EndsInWord schemes (front ++ 32 ∷ text) front word
ends_again schemes front text word below is =
    record { text = text; last = record { is = refl; lacks = visible_lacks 32 text (omega arith) (among_visible schemes word text is) }; below = below; is = is }

untabbed : (schemes : Bool) (line front text : List ℕ) (word : ℕ) → EndsInWord false line front word → IsTextAmong schemes word text → IsListed line → Lacks 9 (front ++ 32 ∷ text)
untabbed schemes line front text word h is l =
    lacks_append 9 front (32 ∷ text) (lacks_front 9 front (32 ∷ h.text) (subst (λ (t : List ℕ). Lacks 9 t) h.last.is l.untabbed)) (refl, visible_lacks 9 text (omega arith) (among_visible schemes word text is))

bare : (s k : Bool) (line labelled front text : List ℕ) (word : ℕ) → IsListed line → EndsInWord false line front word → IsTextAmong s word text → labelled ≡ front ++ 32 ∷ text → ReadsLine (record { schemes = s; keys = k }) labelled line
bare s k line labelled front text word l h is e = (
  labelled,
  None,
  ((λ keys. subst (λ (t : List ℕ). Lacks 9 t) (sym e) (untabbed s line front text word h is l)), refl),
  inl (front, h.text, word, subst (λ (t : List ℕ). EndsInWord s t front word) (sym e) (ends_again s front text word h.below is), tt, h.is, h.last.is),
)

off : (s k : Bool) (line labelled front text mark : List ℕ) (word : ℕ) → IsListed line → EndsInWord false line front word → IsTextAmong s word text → IsMark s k word mark → labelled ≡ front ++ 32 ∷ (text ++ mark)
    → ReadsLine (record { schemes = s; keys = k }) labelled line
off s true line labelled front text mark word l h is (inl (key, key_is, m)) e = (
  front ++ 32 ∷ text,
  Some key,
  (refl, (untabbed s line front text word h is l, e ∙ ap (λ (z : List ℕ). front ++ 32 ∷ (text ++ z)) m ∙ sym (append_assoc front (32 ∷ text) (9 ∷ key)))),
  inl (front, h.text, word, ends_again s front text word h.below is, key_is, h.is, h.last.is),
)
off s true line labelled front text mark word l h is (inr (none, m)) e =
    bare s true line labelled front text word l h is (e ∙ ap (λ (z : List ℕ). front ++ 32 ∷ (text ++ z)) m ∙ ap (λ (z : List ℕ). front ++ 32 ∷ z) (append-nil text))
off s false line labelled front text mark word l h is m e =
    bare s false line labelled front text word l h is (e ∙ ap (λ (z : List ℕ). front ++ 32 ∷ (text ++ z)) m ∙ ap (λ (z : List ℕ). front ++ 32 ∷ z) (append-nil text))

pub come_off : (labels : Labels) (line labelled : List ℕ) → IsListed line → IsLabelled labels line labelled → ReadsLine labels labelled line
come_off labels line labelled l (inl (front, text, mark, word, h, is, marked, e)) = off labels.schemes labels.keys line labelled front text mark word l h is marked e
come_off labels line labelled l (inr (none, same)) = (
  labelled,
  None,
  ((λ keys. subst (λ (t : List ℕ). Lacks 9 t) (sym same) l.untabbed), refl),
  inr (
    subst (λ (t : List ℕ). (f : List ℕ) (w : ℕ) → EndsInWord labels.schemes t f w → ⊥) (sym same) (none_among labels.schemes line l none),
    (λ on. subst (λ (t : List ℕ). NoUri t) (sym same) (l.last none)),
    refl,
    sym same,
  ),
)

-- ---- a line is labelled in one way

one_among : (schemes : Bool) (word : ℕ) (s t : List ℕ) → IsTextAmong schemes word s → IsTextAmong schemes word t → s ≡ t
one_among true word s t h k = same_text_in word s t h k
one_among false word s t h k = texts_same word s t h k

-- a word's EPC has one key
pub one_key : (schemes : Bool) (word : ℕ) (s t : List ℕ) → IsKeyAmong schemes word s → IsKeyAmong schemes word t → s ≡ t
one_key true word s t h k = one_text_in_all Key word s t h k
one_key false word s t h k = one_text Key word s t h k

one_mark : (schemes keys : Bool) (word : ℕ) (s t : List ℕ) → IsMark schemes keys word s → IsMark schemes keys word t → s ≡ t
one_mark schemes true word s t (inl (a, p, e)) (inl (b, q, f)) = e ∙ ap (λ (z : List ℕ). 9 ∷ z) (one_key schemes word a b p q) ∙ sym f
one_mark schemes true word s t (inl (a, p, e)) (inr (none, f)) = absurd (none a p)
one_mark schemes true word s t (inr (none, e)) (inl (b, q, f)) = absurd (none b q)
one_mark schemes true word s t (inr (none, e)) (inr (never, f)) = e ∙ sym f
one_mark schemes false word s t e f = e ∙ sym f

pub one_labelled : (labels : Labels) (line a b : List ℕ) → IsLabelled labels line a → IsLabelled labels line b → a ≡ b
one_labelled labels line a b (inl (front, text, mark, word, h, is, marked, e)) (inl (before, other, sign, number, k, so, signed, f)) =
    let same = one_ending false line front before word number h k in
    let t : text ≡ other = one_among labels.schemes word text other is (subst (λ (w : ℕ). IsTextAmong labels.schemes w other) (sym same.1) so) in
    let m : mark ≡ sign = one_mark labels.schemes labels.keys word mark sign marked (subst (λ (w : ℕ). IsMark labels.schemes labels.keys w sign) (sym same.1) signed) in
    e ∙ ap (λ (z : List ℕ). z ++ 32 ∷ (text ++ mark)) same.0 ∙ ap (λ (z : List ℕ). before ++ 32 ∷ (z ++ mark)) t ∙ ap (λ (z : List ℕ). before ++ 32 ∷ (other ++ z)) m ∙ sym f
one_labelled labels line a b (inl (front, text, mark, word, h, is, marked, e)) (inr (none, f)) = absurd (none front word h)
one_labelled labels line a b (inr (none, e)) (inl (front, text, mark, word, h, is, marked, f)) = absurd (none front word h)
one_labelled labels line a b (inr (none, e)) (inr (never, f)) = e ∙ sym f

-- without further schemes the line stays, and a tab and a key may follow it
pub key_added : (line labelled : List ℕ) → IsLabelled (record { schemes = false; keys = true }) line labelled → (labelled ≡ line) ⊎ ((key : List ℕ) × (labelled ≡ line ++ 9 ∷ key))
key_added line labelled (inr (none, e)) = inl e
key_added line labelled (inl (front, text, mark, word, h, is, marked, e)) =
    let same : front ++ 32 ∷ text ≡ line = ap (λ (z : List ℕ). front ++ 32 ∷ z) (texts_same word text h.text is h.is) ∙ sym h.last.is in
    let cut : labelled ≡ line ++ mark = e ∙ sym (append_assoc front (32 ∷ text) mark) ∙ ap (λ (z : List ℕ). z ++ mark) same in
    elim marked [
      | inl m ↦ inr (m.0, cut ∙ ap (λ (z : List ℕ). line ++ z) m.2)
      | inr m ↦ inl (cut ∙ ap (λ (z : List ℕ). line ++ z) m.1 ∙ append-nil line)
    ]
