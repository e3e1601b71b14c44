-- Each EPC has one tag URI, and each tag URI is one EPC's.
use Rattle.std.proofs.Common.{◌≡◌, ℕ, ◌+◌, ◌^◌, ◌<◌, Bool, true, false, not, cond, List, [], ◌∷◌, ◌++◌, Option, Some, None, refl, sym, ap, ◌∙◌, subst, arith, length, drop, get_or, inl, inr}
use Rattle.std.specs.Prelude.{◌==◌, ◌&&◌, sum, unwrap_or}
use Rattle.std.specs.List.{All, list_all, slice_split, join_with_byte, find}
use Rattle.std.specs.Str.{IsCharBoundary}
use Rattle.std.proofs.lemmas.Bool.{ne_eqb}
use Rattle.std.proofs.lemmas.List.Elements.{All-nil, All-cons}
use Rattle.std.proofs.lemmas.List.Splits.{slice_split_none, slice_split_at}
use Rattle.tag_epc.specs.declared.kind.Kind.{Kind}
use Rattle.tag_epc.specs.declared.kind.Kind.TheVariants.{Sgtin, Gid}
use Rattle.tag_epc.specs.declared.epc.Parts.{Parts}
use Rattle.tag_epc.specs.declared.epc.Parts.TheVariants.{Partitioned, General}
use Rattle.tag_epc.specs.Layout.{Layout, layout_of, scheme_name}
use Rattle.tag_epc.specs.Private.Layout.{every_kind}
use Rattle.tag_epc.specs.Calls.Layout.{is_sound}
use Rattle.tag_epc.specs.LawfulWord.{IsLawfulEpc, HasWord, kind_of_parts}
use Rattle.tag_bits.specs.Digits.{word_digits}
use Rattle.tag_epc.proofs.OneReading.{one_word, one_epc}
use Rattle.tag_uri.specs.declared.fault.UriFault.{UriFault}
use Rattle.tag_uri.specs.declared.fault.UriFault.TheVariants as fault
use Rattle.tag_uri.specs.Calls.Decimal.{AreDigits}
use Rattle.tag_uri.specs.Decimal.{padded, plain}
use Rattle.tag_uri.specs.Hexadecimal.{hexadecimal}
use Rattle.tag_uri.specs.TagText.{tag_uri, tag_start, scheme_text, components, components_of, partitioned_components, reference_digits, refusal, first_rule, HasTagFault, HasWrongComponents, raw_uri, raw_start, raw_length, IsTextOf, AreWordDigits, HasRawFault, HasTextFault}
use Rattle.tag_uri.proofs.ComponentLemmas.{joined}
use Rattle.tag_uri.proofs.DecimalLemmas.{digits-padded}
use Rattle.tag_uri.proofs.HexadecimalLemmas.{one_number, word_digits_of}
use Rattle.tag_uri.proofs.PrintLemmas.{at_row, general_below, no_prefix}
use Rattle.tag_uri.proofs.LawfulTexts.{one_partitioned, one_general, lawful_fine, general_lawful_fine, digits_of_plain, last_small}

-- ---- the scheme's name

-- no colon
abbrev colonless : List ℕ → Bool
colonless x = list_all (λ c. not (c == 58)) x

name_colonless : (k : Kind) → colonless (scheme_name k) ≡ true
name_colonless Sgtin = refl
name_colonless _ = refl

no_colon_first : (c : ℕ) (cs : List ℕ) → colonless (c ∷ cs) ≡ true → c ≡ 58 → ⊥
no_colon_first c cs h e = let no : colonless (58 ∷ cs) ≡ true = rw e at h in cc

rest_colonless : (c : ℕ) (cs : List ℕ) → colonless (c ∷ cs) ≡ true → colonless cs ≡ true
rest_colonless c cs h = both (not (c == 58)) (colonless cs) h
  where
    both : (a b : Bool) → (a && b) ≡ true → b ≡ true
    both true b e = e
    both false b e = cc

at_colon : (x y a b : List ℕ) → colonless x ≡ true → colonless y ≡ true → x ++ 58 ∷ a ≡ y ++ 58 ∷ b → (x ≡ y) × (a ≡ b)
at_colon [] [] a b h k e = (refl, cc)
at_colon [] (d ∷ ds) a b h k e = absurd (no_colon_first d ds k cc)
at_colon (c ∷ cs) [] a b h k e = absurd (no_colon_first c cs h cc)
at_colon (c ∷ cs) (d ∷ ds) a b h k e =
    let first : c ≡ d = cc in
    let tail : cs ++ 58 ∷ a ≡ ds ++ 58 ∷ b = cc in
    let ih = at_colon cs ds a b (rest_colonless c cs h) (rest_colonless d ds k) tail in
    (rw (first, ih.0) refl, ih.1)

-- a kind by the sum of its name's letters
kind_by : ℕ → Option Kind
kind_by n = find (λ k. sum (scheme_name k) == n) every_kind

told : (k : Kind) → kind_by (sum (scheme_name k)) ≡ Some k
unfolding kind_by
told Sgtin = refl
told _ = refl

one_kind : (j k : Kind) → scheme_name j ≡ scheme_name k → j ≡ k
one_kind j k e = let s : Some j ≡ Some k = sym (told j) ∙ ap (λ (x : List ℕ). kind_by (sum x)) e ∙ told k in cc

pub one_scheme : (j k : Kind) (a b : List ℕ) → scheme_text j a ≡ scheme_text k b → (j ≡ k) × (a ≡ b)
one_scheme j k a b e = let p = at_colon (scheme_name j) (scheme_name k) a b (name_colonless j) (name_colonless k) e in (one_kind j k p.0, p.1)

-- ---- the components

digits_dotless : (c : List ℕ) → AreDigits c → All (λ x. (x == 46) ≡ false) c
digits_dotless [] h = All-nil (λ x. (x == 46) ≡ false)
digits_dotless (d ∷ ds) h = let r = h.0 in All-cons (λ x. (x == 46) ≡ false) d ds (ne_eqb d 46 (λ e. omega (arith, r, e))) (digits_dotless ds h.1)

abbrev pub AllOfDigits : List (List ℕ) → Type 0
AllOfDigits [] = Unit {0}
AllOfDigits (c ∷ cs) = AreDigits c × AllOfDigits cs

split_again : (c : List ℕ) (cs : List (List ℕ)) → AllOfDigits (c ∷ cs) → slice_split (λ b. b == 46) (join_with_byte 46 (c ∷ cs)) ≡ c ∷ cs
split_again c [] h = slice_split_none (λ b. b == 46) c (digits_dotless c h.0)
split_again c (d ∷ ds) h =
    slice_split_at (λ b. b == 46) c 46 (join_with_byte 46 (d ∷ ds)) (digits_dotless c h.0) refl
    ∙ ap (λ (x : List (List ℕ)). c ∷ x) (split_again d ds h.1)

pub components_again : (c : List ℕ) (cs : List (List ℕ)) → AllOfDigits (c ∷ cs) → components (join_with_byte 46 (c ∷ cs)) ≡ c ∷ cs
unfolding components
components_again c cs h = split_again c cs h

again : (cs : List (List ℕ)) → AllOfDigits cs → 0 < length cs → components (join_with_byte 46 cs) ≡ cs
again [] h some = absurd (omega arith)
again (c ∷ cs) h some = components_again c cs h

-- ---- tag URIs

-- a layout, if there is one, is sound
abbrev sound_if_any : Option Layout → Bool
sound_if_any None = true
sound_if_any (Some l) = is_sound l

kind_sound : (k : Kind) → sound_if_any (layout_of k) ≡ true
kind_sound Gid = refl
kind_sound _ = refl

pub sound_of : (k : Kind) (l : Layout) → layout_of k ≡ Some l → is_sound l ≡ true
sound_of k l e = ap sound_if_any (sym e) ∙ kind_sound k

-- what is known of components
pub record Written (cs : List (List ℕ)) : Type 0 where
  pub digits : AllOfDigits cs
  pub some : 0 < length cs

written_at : (l : Layout) (f k c r last : ℕ) (b : Bool) → (b ≡ false → last < 2 ^ 64) → Written (padded 1 f ∷ padded k c ∷ padded (unwrap_or (reference_digits l.rows k) 0) r ∷ cond b [] (plain last ∷ []))
written_at l f k c r last true small = record { digits = (digits-padded 1 f, (digits-padded k c, (digits-padded (unwrap_or (reference_digits l.rows k) 0) r, tt))); some = omega arith }
written_at l f k c r last false small = record { digits = (digits-padded 1 f, (digits-padded k c, (digits-padded (unwrap_or (reference_digits l.rows k) 0) r, (digits_of_plain last (small refl), tt)))); some = omega arith }

pub written : (epc : Parts) → IsLawfulEpc epc → Written (components_of epc)
written (Partitioned kind f k c r last) h =
    let l : Layout = h.has.layout in
    let known : layout_of kind ≡ Some l = h.has.scheme in
    let sound = sound_of kind l known in
    let a = at_row kind l f k c r last known sound h in
    rw known (written_at l f k c r last l.zero_tail (λ e. last_small l last sound e a.last_fits))
written (General m o s) h =
    let b = general_below m o s h in
    record { digits = (digits_of_plain m (omega (arith, b.0)), (digits_of_plain o (omega (arith, b.1)), (digits_of_plain s (omega (arith, b.2)), tt))); some = omega arith }

-- no rule refuses the components of a lawful EPC
fine_epc : (epc : Parts) → IsLawfulEpc epc → refusal (layout_of (kind_of_parts epc)) (components_of epc) ≡ None
fine_epc (Partitioned kind f k c r last) h =
    let l : Layout = h.has.layout in
    let known : layout_of kind ≡ Some l = h.has.scheme in
    rw known (lawful_fine kind l f k c r last known (sound_of kind l known) h)
fine_epc (General m o s) h = general_lawful_fine m o s h

cancel_start : (x y : List ℕ) → tag_start ++ x ≡ tag_start ++ y → x ≡ y
cancel_start x y e = cc

pub uri_is : (epc : Parts) → tag_uri epc ≡ tag_start ++ scheme_text (kind_of_parts epc) (join_with_byte 46 (components_of epc))
unfolding tag_uri
uri_is epc = refl

-- scheme and components of a tag URI
parts_of_uri : (epc : Parts) (kind : Kind) (rest : List ℕ) → IsLawfulEpc epc → tag_uri epc ≡ tag_start ++ scheme_text kind rest → (kind_of_parts epc ≡ kind) × (components rest ≡ components_of epc)
parts_of_uri epc kind rest h e =
    let w = written epc h in
    let p = one_scheme (kind_of_parts epc) kind (join_with_byte 46 (components_of epc)) rest (cancel_start _ _ (sym (uri_is epc) ∙ e)) in
    (p.0, ap components (sym p.1) ∙ again (components_of epc) w.digits w.some)

same_epc : (d e : Parts) → IsLawfulEpc d → IsLawfulEpc e → kind_of_parts d ≡ kind_of_parts e → components_of d ≡ components_of e → d ≡ e
same_epc (Partitioned kind f k c r last) (Partitioned other g m d s late) h i same cs =
    let l : Layout = h.has.layout in
    let known : layout_of kind ≡ Some l = h.has.scheme in
    let to : (j : Kind) → Parts = λ j. Partitioned j g m d s late in
    let here : IsLawfulEpc (Partitioned kind g m d s late) = subst (λ (j : Kind). IsLawfulEpc (to j)) (sym same) i in
    let list : partitioned_components (Some l) f k c r last ≡ partitioned_components (Some l) g m d s late =
    ap (λ (o : Option Layout). partitioned_components o f k c r last) (sym known) ∙ cs ∙ ap (λ (j : Kind). partitioned_components (layout_of j) g m d s late) (sym same) ∙ ap (λ (o : Option Layout). partitioned_components o g m d s late) known in
    one_partitioned kind l f k c r last g m d s late known (sound_of kind l known) h here list ∙ ap to same
same_epc (Partitioned kind f k c r last) (General n p t) h i same cs = absurd (no_prefix f k c r last (subst (λ (j : Kind). IsLawfulEpc (Partitioned j f k c r last)) same h))
same_epc (General m o s) (Partitioned kind f k c r last) h i same cs = absurd (no_prefix f k c r last (subst (λ (j : Kind). IsLawfulEpc (Partitioned j f k c r last)) (sym same) i))
same_epc (General m o s) (General n p t) h i same cs = one_general m o s n p t h i cs

pub one_uri : (d e : Parts) → IsLawfulEpc d → IsLawfulEpc e → tag_uri d ≡ tag_uri e → d ≡ e
one_uri d e h i same =
    let p = parts_of_uri d (kind_of_parts e) (join_with_byte 46 (components_of e)) h (same ∙ uri_is e) in
    let w = written e i in
    same_epc d e h i p.0 (sym p.1 ∙ again (components_of e) w.digits w.some)

not_wrong : (epc : Parts) (f : UriFault) → IsLawfulEpc epc → HasWrongComponents (tag_uri epc) f → ⊥
not_wrong epc f h w =
    let p = parts_of_uri epc w.kind w.rest h w.named in
    let r : refusal (layout_of (kind_of_parts epc)) (components_of epc) ≡ Some f = ap (λ (k : Kind). refusal (layout_of k) (components_of epc)) p.0 ∙ ap (refusal (layout_of w.kind)) (sym p.1) ∙ w.refused in
    let n = fine_epc epc h in cc

pub no_fault : (epc : Parts) (f : UriFault) → IsLawfulEpc epc → HasTagFault (tag_uri epc) f → ⊥
no_fault epc fault.Start h w = w _ (uri_is epc)
no_fault epc fault.Scheme h w = let e = cancel_start w.0 _ (sym w.1 ∙ uri_is epc) in w.2 (kind_of_parts epc) _ e
no_fault epc fault.Parts h w = not_wrong epc fault.Parts h w
no_fault epc fault.Digit h w = not_wrong epc fault.Digit h w
no_fault epc fault.LeadingZero h w = not_wrong epc fault.LeadingZero h w
no_fault epc fault.Filter h w = not_wrong epc fault.Filter h w
no_fault epc fault.Digits h w = not_wrong epc fault.Digits h w
no_fault epc fault.Range h w = not_wrong epc fault.Range h w
no_fault epc fault.RawForm h w = not_wrong epc fault.RawForm h w
no_fault epc fault.RawOfLawful h w = not_wrong epc fault.RawOfLawful h w

-- ---- texts of words

starts_apart : (x y : List ℕ) → tag_start ++ x ≡ raw_start ++ y → ⊥
starts_apart x y e = differ (get_or (tag_start ++ x) 8 0) (get_or (raw_start ++ y) 8 0) (ap (λ (t : List ℕ). get_or t 8 0) e) refl refl
  where
    differ : (a b : ℕ) → a ≡ b → a ≡ 116 → b ≡ 114 → ⊥
    differ a b e p q = omega arith

not_raw : (epc : Parts) (y : List ℕ) → tag_uri epc ≡ raw_start ++ y → ⊥
not_raw epc y e = starts_apart _ y (sym (uri_is epc) ∙ e)

raw_digits : (x y : List ℕ) → raw_start ++ (raw_length ++ x) ≡ raw_start ++ (raw_length ++ y) → x ≡ y
raw_digits x y e = cc

pub raw_is : (w : ℕ) → raw_uri w ≡ raw_start ++ (raw_length ++ hexadecimal 24 w)
unfolding raw_uri
raw_is w = refl

one_raw : (v w : ℕ) → v < 2 ^ 96 → w < 2 ^ 96 → raw_uri v ≡ raw_uri w → v ≡ w
one_raw v w p q e = one_number v w p q (raw_digits _ _ (sym (raw_is v) ∙ e ∙ raw_is w))

pub words_apart : (v w : ℕ) (text : List ℕ) → v < 2 ^ 96 → w < 2 ^ 96 → IsTextOf v text → IsTextOf w text → v ≡ w
words_apart v w text p q (inl a) (inl b) =
    let same = one_uri a.0 b.0 a.1.lawful b.1.lawful (sym a.2 ∙ b.2) in
    one_word b.0 v w p q (subst (λ (x : Parts). HasWord x v) same a.1) b.1
words_apart v w text p q (inl a) (inr b) = absurd (not_raw a.0 _ (sym a.2 ∙ b.1 ∙ raw_is w))
words_apart v w text p q (inr a) (inl b) = absurd (not_raw b.0 _ (sym b.2 ∙ a.1 ∙ raw_is v))
words_apart v w text p q (inr a) (inr b) = one_raw v w p q (sym a.1 ∙ b.1)

raw_fault : (w : ℕ) (text : List ℕ) (f : UriFault) → w < 2 ^ 96 → ((epc : Parts) → HasWord epc w → ⊥) → text ≡ raw_uri w → HasRawFault text f → ⊥
raw_fault w text fault.RawForm p none e h = h (hexadecimal 24 w) (e ∙ raw_is w) (word_digits_of w)
raw_fault w text fault.RawOfLawful p none e h =
    let same : h.0 ≡ w = one_raw h.0 w h.1 p (sym h.2 ∙ e) in
    none h.3 (subst (λ (x : ℕ). HasWord h.3 x) same h.4)
raw_fault w text fault.Start p none e h = h
raw_fault w text fault.Scheme p none e h = h
raw_fault w text fault.Parts p none e h = h
raw_fault w text fault.Digit p none e h = h
raw_fault w text fault.LeadingZero p none e h = h
raw_fault w text fault.Filter p none e h = h
raw_fault w text fault.Digits p none e h = h
raw_fault w text fault.Range p none e h = h

pub text_or_fault : (w : ℕ) (text : List ℕ) (f : UriFault) → w < 2 ^ 96 → IsTextOf w text → HasTextFault text f → ⊥
text_or_fault w text f p (inl a) (inl h) = not_raw a.0 h.0 (sym a.2 ∙ h.1)
text_or_fault w text f p (inl a) (inr h) = no_fault a.0 f a.1.lawful (subst (λ (t : List ℕ). HasTagFault t f) a.2 h.1)
text_or_fault w text f p (inr a) (inl h) = raw_fault w text f p a.0 a.1 h.2
text_or_fault w text f p (inr a) (inr h) = h.0 _ (a.1 ∙ raw_is w)

-- ---- what the reading of a text shows

-- the text after a start
abbrev pub Strips : List ℕ → List ℕ → List ℕ → Type 0
Strips start text rest = (k : ℕ) × ((k ≡ length start) × (text ≡ start ++ drop k text) × IsCharBoundary text (length start)) × (rest ≡ drop k text) × (length rest + k ≡ length text)

pub begins : (start text rest : List ℕ) → Strips start text rest → text ≡ start ++ rest
begins start text rest h = h.1.1 ∙ ap (λ (x : List ℕ). start ++ x) (sym h.2)

-- the rules on components name neither start nor scheme
abbrev six : Bool → Bool → Bool → Bool → Bool → Bool → List (Bool × UriFault)
six a b c d e g = (a, fault.Parts) ∷ (b, fault.Digit) ∷ (c, fault.LeadingZero) ∷ (d, fault.Filter) ∷ (e, fault.Digits) ∷ (g, fault.Range) ∷ []

no_start : (a b c d e g : Bool) → first_rule (six a b c d e g) ≡ Some fault.Start → ⊥
no_start true b c d e g h = cc
no_start false true c d e g h = cc
no_start false false true d e g h = cc
no_start false false false true e g h = cc
no_start false false false false true g h = cc
no_start false false false false false true h = cc
no_start false false false false false false h = cc

no_scheme : (a b c d e g : Bool) → first_rule (six a b c d e g) ≡ Some fault.Scheme → ⊥
no_scheme true b c d e g h = cc
no_scheme false true c d e g h = cc
no_scheme false false true d e g h = cc
no_scheme false false false true e g h = cc
no_scheme false false false false true g h = cc
no_scheme false false false false false true h = cc
no_scheme false false false false false false h = cc

not_start : (l : Option Layout) (cs : List (List ℕ)) → refusal l cs ≡ Some fault.Start → ⊥
unfolding refusal
not_start l cs h = no_start _ _ _ _ _ _ h

not_scheme : (l : Option Layout) (cs : List (List ℕ)) → refusal l cs ≡ Some fault.Scheme → ⊥
unfolding refusal
not_scheme l cs h = no_scheme _ _ _ _ _ _ h

-- components that a rule refuses refuse the text
pub wrong_components : (text : List ℕ) (kind : Kind) (rest : List ℕ) (f : UriFault) → text ≡ tag_start ++ scheme_text kind rest → refusal (layout_of kind) (components rest) ≡ Some f → HasTagFault text f
wrong_components text kind rest fault.Start e h = absurd (not_start (layout_of kind) (components rest) h)
wrong_components text kind rest fault.Scheme e h = absurd (not_scheme (layout_of kind) (components rest) h)
wrong_components text kind rest fault.Parts e h = record { kind = kind; rest = rest; named = e; refused = h }
wrong_components text kind rest fault.Digit e h = record { kind = kind; rest = rest; named = e; refused = h }
wrong_components text kind rest fault.LeadingZero e h = record { kind = kind; rest = rest; named = e; refused = h }
wrong_components text kind rest fault.Filter e h = record { kind = kind; rest = rest; named = e; refused = h }
wrong_components text kind rest fault.Digits e h = record { kind = kind; rest = rest; named = e; refused = h }
wrong_components text kind rest fault.Range e h = record { kind = kind; rest = rest; named = e; refused = h }
wrong_components text kind rest fault.RawForm e h = record { kind = kind; rest = rest; named = e; refused = h }
wrong_components text kind rest fault.RawOfLawful e h = record { kind = kind; rest = rest; named = e; refused = h }

-- the text of the EPC with these components
pub right_components : (text : List ℕ) (kind : Kind) (rest : List ℕ) (parts : Parts) → text ≡ tag_start ++ scheme_text kind rest → kind_of_parts parts ≡ kind → components rest ≡ components_of parts → text ≡ tag_uri parts
right_components text kind rest parts e k cs =
    e ∙ ap (λ (j : Kind). tag_start ++ scheme_text j rest) (sym k) ∙ ap (λ (x : List ℕ). tag_start ++ scheme_text (kind_of_parts parts) x) (sym (joined rest) ∙ ap (join_with_byte 46) cs) ∙ sym (uri_is parts)

-- the raw URI of a word with these digits
pub right_digits : (text rest digits : List ℕ) (w : ℕ) → text ≡ raw_start ++ rest → rest ≡ raw_length ++ digits → digits ≡ hexadecimal 24 w → text ≡ raw_uri w
right_digits text rest digits w e r d = e ∙ ap (λ (x : List ℕ). raw_start ++ x) (r ∙ ap (λ (x : List ℕ). raw_length ++ x) d) ∙ sym (raw_is w)

-- a word has one text
pub texts_same : (w : ℕ) (s t : List ℕ) → IsTextOf w s → IsTextOf w t → s ≡ t
texts_same w s t (inl a) (inl b) = a.2 ∙ ap tag_uri (one_epc a.0 b.0 (word_digits w) a.1 b.1) ∙ sym b.2
texts_same w s t (inl a) (inr b) = absurd (b.0 a.0 a.1)
texts_same w s t (inr a) (inl b) = absurd (a.0 b.0 b.1)
texts_same w s t (inr a) (inr b) = a.1 ∙ sym b.1

-- ---- one fault a text

-- where a rule on tag URIs applies: at the start, at the scheme or at the components
data Told (text : List ℕ) (f : UriFault) : Type 0 where
  start : f ≡ fault.Start → ((rest : List ℕ) → text ≡ tag_start ++ rest → ⊥) → Told text f
  scheme : f ≡ fault.Scheme → (rest : List ℕ) → text ≡ tag_start ++ rest → ((kind : Kind) (more : List ℕ) → rest ≡ scheme_text kind more → ⊥) → Told text f
  wrong : HasWrongComponents text f → Told text f

told_by : (text : List ℕ) (f : UriFault) → HasTagFault text f → Told text f
told_by text fault.Start h = start refl h
told_by text fault.Scheme h = scheme refl h.0 h.1 h.2
told_by text fault.Parts h = wrong h
told_by text fault.Digit h = wrong h
told_by text fault.LeadingZero h = wrong h
told_by text fault.Filter h = wrong h
told_by text fault.Digits h = wrong h
told_by text fault.Range h = wrong h
told_by text fault.RawForm h = wrong h
told_by text fault.RawOfLawful h = wrong h

one_wrong : (text : List ℕ) (f g : UriFault) → HasWrongComponents text f → HasWrongComponents text g → f ≡ g
one_wrong text f g a b =
    let p = one_scheme a.kind b.kind a.rest b.rest (cancel_start _ _ (sym a.named ∙ b.named)) in
    let r : Some f ≡ Some g = sym a.refused ∙ ap (λ (k : Kind). refusal (layout_of k) (components a.rest)) p.0 ∙ ap (λ (x : List ℕ). refusal (layout_of b.kind) (components x)) p.1 ∙ b.refused in
    cc

one_told : (text : List ℕ) (f g : UriFault) → Told text f → Told text g → f ≡ g
one_told text f g (start e h) (start d i) = e ∙ sym d
one_told text f g (start e h) (scheme d rest i j) = absurd (h rest i)
one_told text f g (start e h) (wrong b) = absurd (h _ b.named)
one_told text f g (scheme e rest h k) (start d i) = absurd (i rest h)
one_told text f g (scheme e rest h k) (scheme d more i j) = e ∙ sym d
one_told text f g (scheme e rest h k) (wrong b) = absurd (k b.kind b.rest (cancel_start _ _ (sym h ∙ b.named)))
one_told text f g (wrong a) (start d i) = absurd (i _ a.named)
one_told text f g (wrong a) (scheme d more i j) = absurd (j a.kind a.rest (cancel_start _ _ (sym i ∙ a.named)))
one_told text f g (wrong a) (wrong b) = one_wrong text f g a b

pub one_tag_fault : (text : List ℕ) (f g : UriFault) → HasTagFault text f → HasTagFault text g → f ≡ g
one_tag_fault text f g a b = one_told text f g (told_by text f a) (told_by text g b)

-- the two rules on raw URIs
data ToldRaw (text : List ℕ) (f : UriFault) : Type 0 where
  form : f ≡ fault.RawForm → ((digits : List ℕ) → text ≡ raw_start ++ (raw_length ++ digits) → AreWordDigits digits → ⊥) → ToldRaw text f
  of_lawful : f ≡ fault.RawOfLawful → (w : ℕ) → text ≡ raw_uri w → ToldRaw text f

told_raw : (text : List ℕ) (f : UriFault) → HasRawFault text f → ToldRaw text f
told_raw text fault.RawForm h = form refl h
told_raw text fault.RawOfLawful h = of_lawful refl h.0 h.2
told_raw text fault.Start h = absurd h
told_raw text fault.Scheme h = absurd h
told_raw text fault.Parts h = absurd h
told_raw text fault.Digit h = absurd h
told_raw text fault.LeadingZero h = absurd h
told_raw text fault.Filter h = absurd h
told_raw text fault.Digits h = absurd h
told_raw text fault.Range h = absurd h

one_raw_fault : (text : List ℕ) (f g : UriFault) → ToldRaw text f → ToldRaw text g → f ≡ g
one_raw_fault text f g (form e h) (form d i) = e ∙ sym d
one_raw_fault text f g (form e h) (of_lawful d w i) = absurd (h (hexadecimal 24 w) (i ∙ raw_is w) (word_digits_of w))
one_raw_fault text f g (of_lawful e w h) (form d i) = absurd (i (hexadecimal 24 w) (h ∙ raw_is w) (word_digits_of w))
one_raw_fault text f g (of_lawful e w h) (of_lawful d v i) = e ∙ sym d

pub one_fault : (text : List ℕ) (f g : UriFault) → HasTextFault text f → HasTextFault text g → f ≡ g
one_fault text f g (inl a) (inl b) = one_raw_fault text f g (told_raw text f a.2) (told_raw text g b.2)
one_fault text f g (inl a) (inr b) = absurd (b.0 a.0 a.1)
one_fault text f g (inr a) (inl b) = absurd (a.0 b.0 b.1)
one_fault text f g (inr a) (inr b) = one_tag_fault text f g a.1 b.1
