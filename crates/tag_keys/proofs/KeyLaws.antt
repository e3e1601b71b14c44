-- An EPC has one text of its key, and a text of a key is one EPC's.
use Rattle.std.proofs.Common.{◌≡◌, ℕ, ◌+◌, ◌-◌, ◌%◌, ◌^◌, ◌<◌, ◌≤◌, Bool, true, false, cond, List, [], ◌∷◌, ◌++◌, length, take, drop, Option, Some, refl, sym, ap, ◌∙◌, subst, arith, inl, inr, length-append, min}
use Rattle.std.specs.Prelude.{unwrap_or, option_map}
use Rattle.std.specs.List.{join_with_byte}
use Rattle.std.proofs.lemmas.Bool.{cases_Bool, true≢false}
use Rattle.std.proofs.lemmas.List.{take_at, drop_at, append_cancel_left, take-append-drop, same_from_push, length-take}
use Rattle.tag_epc.specs.declared.kind.Kind.{Kind}
use Rattle.tag_epc.specs.declared.scheme.Row.{Row}
use Rattle.tag_epc.specs.declared.epc.Parts.{Parts}
use Rattle.tag_epc.specs.declared.epc.Parts.TheVariants.{Partitioned, General}
use Rattle.tag_epc.specs.Layout.{Layout, layout_of}
use Rattle.tag_epc.specs.Calls.Layout.{is_sound}
use Rattle.tag_epc.specs.LawfulWord.{IsLawfulEpc, kind_of_parts}
use Rattle.tag_uri.specs.Calls.Decimal.{AreDigits}
use Rattle.tag_uri.specs.Decimal.{decimal_value, padded, plain}
use Rattle.tag_uri.specs.TagText.{tag_uri, tag_start, scheme_text, components, components_of, partitioned_components, reference_digits, is_strange, HasTagFault}
use Rattle.tag_uri.proofs.DecimalLemmas.{digits-padded, length-padded, value-padded, plain_is}
use Rattle.tag_uri.proofs.LawfulTexts.{last_small}
use Rattle.tag_uri.proofs.PrintLemmas.{AtRow, at_row, row_facts}
use Rattle.tag_uri.proofs.RowDigits.{row_fits, reference_digits-at}
use Rattle.tag_uri.proofs.TextLaws.{AllOfDigits, components_again, written, one_scheme, one_uri, no_fault, uri_is, sound_of}
use Rattle.tag_keys.specs.declared.fault.KeyFault.{KeyFault}
use Rattle.tag_keys.specs.declared.fault.KeyFault.TheVariants as key
use Rattle.tag_keys.specs.declared.spelling.Spelling.{Spelling}
use Rattle.tag_keys.specs.CheckDigit.{is_checked, check_digit, with_check_digit}
use Rattle.tag_keys.specs.PureIdentity.{HasFilter}
use Rattle.tag_keys.specs.KeyText.{KeyForm, SerialForm, Absent, Joined, Marked, MarkedUnlessZero, key_form, is_zero, serial_text, key_digits, key_of, IsKeyText, HasCompanyDigits}
use Rattle.tag_keys.specs.KeyFaults.{IsNumber, AreSerials, ReadsKey, BeginsKey, tag_with, HasKeyFault}
use Rattle.tag_keys.proofs.CheckLemmas.{checks}
use Rattle.tag_keys.proofs.FormLemmas.{same_some, no_gid, mark_short, sizes_of, mark_of, mark_of_other, serial_agrees, agrees_at, one_start}
use Rattle.tag_keys.proofs.PieceLemmas.{at_seam, digits_both, digits_taken, digits_dropped, not_strange, length-key_digits, length-with_check, one_serial, serial_digits}

-- ---- a text is put together in one way at most

same_form : (s : Spelling) (j k : Kind) (f g : KeyForm) → j ≡ k → key_form s j ≡ Some f → key_form s k ≡ Some g → f ≡ g
same_form s j k f g e p q = same_some f g (sym p ∙ ap (key_form s) e ∙ q)

-- what a key has after its start
abbrev pub behind : KeyForm → List ℕ → List ℕ → List (List ℕ) → List ℕ
behind f c r s = with_check_digit (key_digits f.lead c r) ++ serial_text f.serial s

pub record SameReading (j k : Kind) (c d r t : List ℕ) (s u : List (List ℕ)) : Type 0 where
  pub kind : j ≡ k
  pub company : c ≡ d
  pub reference : r ≡ t
  pub serials : s ≡ u

same_digits : (n : ℕ) (c d r t : List ℕ) → length c ≡ length d → length r ≡ length t → key_digits n c r ≡ key_digits n d t → (c ≡ d) × (r ≡ t)
same_digits n c d r t lc lr e =
    let front : length (take n r) ≡ length (take n t) = length-take n r ∙ ap (min n) lr ∙ sym (length-take n t) in
    let a = at_seam (take n r) (take n t) (c ++ drop n r) (d ++ drop n t) e front in
    let b = at_seam c d (drop n r) (drop n t) a.1 lc in
    let ends : take n r ++ drop n r ≡ take n t ++ drop n t = ap (λ (x : List ℕ). x ++ drop n r) a.0 ∙ ap (λ (x : List ℕ). take n t ++ x) b.1 in
    (b.0, sym (take-append-drop n r) ∙ ends ∙ take-append-drop n t)

same_behind : (f : KeyForm) (n : ℕ) (c d r t : List ℕ) (s u : List (List ℕ)) → length c ≡ n → length d ≡ n → length c + length r + 1 ≡ f.digits → length d + length t + 1 ≡ f.digits → AreSerials f.serial s → AreSerials f.serial u
    → behind f c r s ≡ behind f d t u → (c ≡ d) × (r ≡ t) × (s ≡ u)
same_behind f n c d r t s u p q v w a b e =
    let lc : length c ≡ length d = omega arith in
    let lr : length r ≡ length t = omega arith in
    let kc : List ℕ = key_digits f.lead c r in
    let kd : List ℕ = key_digits f.lead d t in
    let long : length (with_check_digit kc) ≡ length (with_check_digit kd) = omega (arith, length-with_check kc, length-with_check kd, length-key_digits f.lead c r, length-key_digits f.lead d t) in
    let seam = at_seam (with_check_digit kc) (with_check_digit kd) (serial_text f.serial s) (serial_text f.serial u) e long in
    let digits = same_digits f.lead c d r t lc lr (same_from_push kc kd _ _ seam.0).0 in
    (digits.0, digits.1, one_serial f.serial s u a b seam.1)

pub one_reading : (s : Spelling) (n : ℕ) (text : List ℕ) (j k : Kind) (c d r t : List ℕ) (x y : List (List ℕ)) → ReadsKey s n text j c r x → ReadsKey s n text k d t y → SameReading j k c d r t x y
one_reading s n text j k c d r t x y a b =
    let kind : j ≡ k = one_start s j k a.form b.form (behind a.form c r x) (behind b.form d t y) a.known b.known (sym a.written ∙ b.written) in
    let form : b.form ≡ a.form = sym (same_form s j k a.form b.form kind a.known b.known) in
    let there : text ≡ a.form.start ++ behind a.form d t y = subst (λ (g : KeyForm). text ≡ g.start ++ behind g d t y) form b.written in
    let whole : length d + length t + 1 ≡ a.form.digits = subst (λ (g : KeyForm). length d + length t + 1 ≡ g.digits) form b.whole in
    let serial : AreSerials a.form.serial y = subst (λ (g : KeyForm). AreSerials g.serial y) form b.serial in
    let e : behind a.form c r x ≡ behind a.form d t y = append_cancel_left a.form.start _ _ (sym a.written ∙ there) in
    let p = same_behind a.form n c d r t x y a.counted b.counted a.whole whole a.serial serial e in
    record { kind = kind; company = p.0; reference = p.1; serials = p.2 }

-- ---- the text of an EPC's key is put together so

-- how it is
pub record EpcReads (s : Spelling) (filter n : ℕ) (epc : Parts) (text : List ℕ) : Type 0 where
  pub company : List ℕ
  pub reference : List ℕ
  pub serials : List (List ℕ)
  pub reads : ReadsKey s n text (kind_of_parts epc) company reference serials
  pub is : components_of epc ≡ padded 1 filter ∷ company ∷ reference ∷ serials
  pub few : length (serial_text reads.form.serial serials) ≤ 30
  pub lead : reads.form.lead ≤ length reference

-- the components after the reference are those that the key's form has
serials_at : (b : Bool) (f : SerialForm) (last : ℕ) → serial_agrees b f ≡ true → (b ≡ false → IsNumber (plain last)) → AreSerials f (cond b [] (plain last ∷ []))
serials_at true Absent last h n = refl
serials_at false Absent last h n = cc
serials_at true Joined last h n = cc
serials_at false Joined last h n = (plain last, refl, n refl)
serials_at true (Marked m) last h n = cc
serials_at false (Marked m) last h n = (plain last, refl, n refl)
serials_at true (MarkedUnlessZero m) last h n = cc
serials_at false (MarkedUnlessZero m) last h n = (plain last, refl, n refl)

unless_zero_short : (b : Bool) (m x : List ℕ) → length m + length x ≤ 30 → length (cond b [] (m ++ x)) ≤ 30
unless_zero_short true m x h = omega arith
unless_zero_short false m x h = omega (arith, length-append m x)

serial_short : (s : Spelling) (k : Kind) (f : KeyForm) (b : Bool) (last : ℕ) → key_form s k ≡ Some f → length (plain last) ≤ 25 → length (serial_text f.serial (cond b [] (plain last ∷ []))) ≤ 30
serial_short s k f true last e h = none f.serial
  where
    none : (g : SerialForm) → length (serial_text g []) ≤ 30
    none g = omega arith
serial_short s k f false last e h = at_form f.serial (sizes_of s k f e).mark
  where
    at_form : (g : SerialForm) → mark_short g ≡ true → length (serial_text g (plain last ∷ [])) ≤ 30
    at_form Absent m = omega arith
    at_form Joined m = omega arith
    at_form (Marked t) m = omega (arith, mark_of t m, length-append t (plain last))
    at_form (MarkedUnlessZero t) m = let l = mark_of_other t m in unless_zero_short (is_zero (plain last)) t (plain last) (omega arith)

small_last : (l : Layout) (f k c r last : ℕ) → is_sound l ≡ true → AtRow l f k c r last → last < 2 ^ 64
small_last l f k c r last sound a =
    elim (cases_Bool l.zero_tail) [
      | inl e ↦ let z = a.last_fits.zero e in omega (arith, z)
      | inr e ↦ last_small l last sound e a.last_fits
    ]

number_plain : (n : ℕ) → n < 2 ^ 64 → IsNumber (plain n)
number_plain n small = let p = plain_is n small in record { digits = p.padded.digits; some = p.some }

pub partitioned_reads : (s : Spelling) (kind : Kind) (f k c r last : ℕ) (text : List ℕ) (l : Layout) (form : KeyForm) → layout_of kind ≡ Some l → key_form s kind ≡ Some form → IsLawfulEpc (Partitioned kind f k c r last)
    → text ≡ key_of form (components_of (Partitioned kind f k c r last)) → EpcReads s f k (Partitioned kind f k c r last) text
partitioned_reads s kind f k c r last text l form known formed h w =
    let sound = sound_of kind l known in
    let a = at_row kind l f k c r last known sound h in
    let short = a.short in
    let small = small_last l f k c r last sound a in
    let d : ℕ = unwrap_or (reference_digits l.rows k) 0 in
    let found : reference_digits l.rows k ≡ option_map (λ x. x.reference_digits) (Some a.row) = reference_digits-at l k (12 - k) sound (omega arith) ∙ ap (option_map (λ (x : Row). x.reference_digits)) a.placed in
    let d_is : d ≡ a.row.reference_digits = ap (λ (o : Option ℕ). unwrap_or o 0) found in
    let table = agrees_at s kind l form known formed in
    let row_total = table.total (12 - k) a.row a.placed in
    let total = row_total.0 in
    let lead = row_total.1 in
    let counted = (row_fits l sound (12 - k) a.row a.placed).digits in
    let facts = row_facts kind l f k c r last a.row known sound h small a.placed in
    let room = facts.room in
    let company_long : length (padded k c) ≡ k = length-padded k c in
    let reference_long : length (padded d r) ≡ d = length-padded d r in
    let serials : List (List ℕ) = cond l.zero_tail [] (plain last ∷ []) in
    let comps : components_of (Partitioned kind f k c r last) ≡ padded 1 f ∷ padded k c ∷ padded d r ∷ serials = ap (λ (o : Option Layout). partitioned_components o f k c r last) known in
    record {
      company = padded k c;
      reference = padded d r;
      serials = serials;
      reads = record {
        form = form;
        known = formed;
        written = w ∙ ap (key_of form) comps;
        counted = company_long;
        whole = omega (arith, company_long, reference_long, d_is, total, counted, short);
        company_digits = digits-padded k c;
        reference_digits = digits-padded d r;
        serial = serials_at l.zero_tail form.serial last table.serial (λ e. number_plain last small);
      };
      is = comps;
      few = serial_short s kind form l.zero_tail last formed (omega (arith, room));
      lead = omega (arith, lead, reference_long, d_is);
    }

pub epc_reads : (s : Spelling) (filter n : ℕ) (epc : Parts) (text : List ℕ) → IsLawfulEpc epc → HasFilter filter epc → HasCompanyDigits n epc → IsKeyText s epc text → EpcReads s filter n epc text
epc_reads s filter n (Partitioned kind f k c r last) text h e d t =
    let p = partitioned_reads s kind f k c r last text h.has.layout t.form h.has.scheme t.known h t.written in
    subst (λ (x : ℕ). EpcReads s x n (Partitioned kind f k c r last) text) e (subst (λ (x : ℕ). EpcReads s f x (Partitioned kind f k c r last) text) d p)
epc_reads s filter n (General m o x) text h e d t = absurd d

-- ---- one EPC

tag_same : (d e : Parts) → kind_of_parts d ≡ kind_of_parts e → components_of d ≡ components_of e → tag_uri d ≡ tag_uri e
tag_same d e k c = uri_is d ∙ ap (λ (j : Kind). tag_start ++ scheme_text j (join_with_byte 46 (components_of d))) k ∙ ap (λ (x : List (List ℕ)). tag_start ++ scheme_text (kind_of_parts e) (join_with_byte 46 x)) c ∙ sym (uri_is e)

same_components : (first : List ℕ) (c d r t : List ℕ) (x y : List (List ℕ)) → c ≡ d → r ≡ t → x ≡ y → ◌≡◌ {A = List (List ℕ)} (first ∷ c ∷ r ∷ x) (first ∷ d ∷ t ∷ y)
same_components first c d r t x y p q w = cc

pub one_key : (s : Spelling) (d e : Parts) (filter n : ℕ) (text : List ℕ) → IsLawfulEpc d → IsLawfulEpc e → HasFilter filter d → HasFilter filter e → HasCompanyDigits n d → HasCompanyDigits n e → IsKeyText s d text → IsKeyText s e text → d ≡ e
one_key s d e filter n text h i fd fe nd ne td te =
    let a = epc_reads s filter n d text h fd nd td in
    let b = epc_reads s filter n e text i fe ne te in
    let p = one_reading s n text (kind_of_parts d) (kind_of_parts e) a.company b.company a.reference b.reference a.serials b.serials a.reads b.reads in
    let cs = same_components (padded 1 filter) a.company b.company a.reference b.reference a.serials b.serials p.company p.reference p.serials in
    one_uri d e h i (tag_same d e p.kind (a.is ∙ cs ∙ sym b.is))

pub same_key_text : (s : Spelling) (epc : Parts) (t u : List ℕ) → IsKeyText s epc t → IsKeyText s epc u → t ≡ u
same_key_text s epc t u a b =
    let form : a.form ≡ b.form = same_some a.form b.form (sym a.known ∙ b.known) in
    a.written ∙ ap (λ (f : KeyForm). key_of f (components_of epc)) form ∙ sym b.written

-- ---- no rule refuses the text of an EPC's key

-- what follows the start, for any reading of it
pub record SameRest (f g : KeyForm) (x rest : List ℕ) : Type 0 where
  pub form : f ≡ g
  pub behind : x ≡ rest

pub same_rest : (s : Spelling) (k : Kind) (text : List ℕ) (f g : KeyForm) (x rest : List ℕ) → key_form s k ≡ Some f → text ≡ f.start ++ x → BeginsKey s text g rest → SameRest f g x rest
same_rest s k text f g x rest known w b =
    let kind : k ≡ b.kind = one_start s k b.kind f g x rest known b.known (sym w ∙ b.begins) in
    let form : f ≡ g = same_form s k b.kind f g kind known b.known in
    let there : text ≡ f.start ++ rest = subst (λ (j : KeyForm). text ≡ j.start ++ rest) (sym form) b.begins in
    record { form = form; behind = append_cancel_left f.start x rest (sym w ∙ there) }

module _ (f : KeyForm) (c r : List ℕ) (x : List (List ℕ)) (whole : length c + length r + 1 ≡ f.digits) where
  pub front_long : length (with_check_digit (key_digits f.lead c r)) ≡ f.digits
  front_long = omega (arith, whole, length-with_check (key_digits f.lead c r), length-key_digits f.lead c r)

  pub behind_long : f.digits ≤ length (behind f c r x)
  behind_long = omega (arith, front_long, length-append (with_check_digit (key_digits f.lead c r)) (serial_text f.serial x))

  pub front_is : take f.digits (behind f c r x) ≡ with_check_digit (key_digits f.lead c r)
  front_is = take_at (with_check_digit (key_digits f.lead c r)) (serial_text f.serial x) f.digits front_long

  pub back_is : drop f.digits (behind f c r x) ≡ serial_text f.serial x
  back_is = drop_at (with_check_digit (key_digits f.lead c r)) (serial_text f.serial x) f.digits front_long

check_is_digit : (ds : List ℕ) → AreDigits (check_digit ds ∷ [])
check_is_digit ds = ((omega arith, omega arith), tt)

pub front_digits : (n : ℕ) (c r : List ℕ) → AreDigits c → AreDigits r → AreDigits (with_check_digit (key_digits n c r))
front_digits n c r h k = digits_both (key_digits n c r) (check_digit (key_digits n c r) ∷ []) (digits_both (take n r) (c ++ drop n r) (digits_taken n r k) (digits_both c (drop n r) h (digits_dropped n r k))) (check_is_digit (key_digits n c r))

module _ (s : Spelling) (filter n : ℕ) (epc : Parts) (text : List ℕ) (h : IsLawfulEpc epc) (p : EpcReads s filter n epc text) where
  form : KeyForm
  form = p.reads.form

  abbrev after : List ℕ
  after = behind p.reads.form p.company p.reference p.serials

  not_long : length text ≤ 96
  not_long =
      let sizes = sizes_of s (kind_of_parts epc) p.reads.form p.reads.known in
      let text_long : length text ≡ length (p.reads.form.start ++ after) = ap length p.reads.written in
      let a = length-append p.reads.form.start after in
      let b = length-append (with_check_digit (key_digits p.reads.form.lead p.company p.reference)) (serial_text p.reads.form.serial p.serials) in
      let front = front_long p.reads.form p.company p.reference p.serials p.reads.whole in
      let few = p.few in
      let start = sizes.start in
      let digits = sizes.digits in
      omega (arith, text_long, a, b, front, few, start, digits)

  rest_of : (g : KeyForm) (rest : List ℕ) → BeginsKey s text g rest → SameRest p.reads.form g after rest
  rest_of g rest b = same_rest s (kind_of_parts epc) text p.reads.form g after rest p.reads.known p.reads.written b

  pub fine : (fault : KeyFault) → HasKeyFault s filter n text fault → ⊥
  fine key.Long w = let short = not_long in omega (arith, w, short)
  fine key.Scheme w = w
  fine key.Start w = w.1 p.reads.form after (record { kind = kind_of_parts epc; known = p.reads.known; begins = p.reads.written })
  fine key.Length w =
      let x = w.1 in
      let q = rest_of x.form x.rest x.begins in
      let few : length after < p.reads.form.digits = subst (λ (t : List ℕ). length t < p.reads.form.digits) (sym q.behind) (subst (λ (g : KeyForm). length x.rest < g.digits) (sym q.form) x.few) in
      let long = behind_long p.reads.form p.company p.reference p.serials p.reads.whole in
      omega (arith, few, long)
  fine key.Digit w =
      let x = w.1 in
      let q = rest_of x.form x.rest x.begins in
      let strange : is_strange (take p.reads.form.digits after) ≡ true = subst (λ (t : List ℕ). is_strange (take p.reads.form.digits t) ≡ true) (sym q.behind) (subst (λ (g : KeyForm). is_strange (take g.digits x.rest) ≡ true) (sym q.form) x.strange) in
      let at : is_strange (with_check_digit (key_digits p.reads.form.lead p.company p.reference)) ≡ true = subst (λ (t : List ℕ). is_strange t ≡ true) (front_is p.reads.form p.company p.reference p.serials p.reads.whole) strange in
      let no = not_strange _ (front_digits p.reads.form.lead p.company p.reference p.reads.company_digits p.reads.reference_digits) in
      true≢false (sym at ∙ no)
  fine (key.Check right) w =
      let x = w.1 in
      let q = rest_of x.form x.rest x.begins in
      let wrong : is_checked (take p.reads.form.digits after) ≡ false = subst (λ (t : List ℕ). is_checked (take p.reads.form.digits t) ≡ false) (sym q.behind) (subst (λ (g : KeyForm). is_checked (take g.digits x.rest) ≡ false) (sym q.form) x.wrong) in
      let at : is_checked (with_check_digit (key_digits p.reads.form.lead p.company p.reference)) ≡ false = subst (λ (t : List ℕ). is_checked t ≡ false) (front_is p.reads.form p.company p.reference p.serials p.reads.whole) wrong in
      true≢false (sym (checks (key_digits p.reads.form.lead p.company p.reference)) ∙ at)
  fine key.Serial w =
      let x = w.1 in
      let q = rest_of x.form x.rest x.begins in
      let serial : AreSerials x.form.serial p.serials = subst (λ (g : KeyForm). AreSerials g.serial p.serials) q.form p.reads.serial in
      let tail : drop p.reads.form.digits after ≡ serial_text p.reads.form.serial p.serials = back_is p.reads.form p.company p.reference p.serials p.reads.whole in
      let moved : drop x.form.digits x.rest ≡ serial_text x.form.serial p.serials = subst (λ (t : List ℕ). drop x.form.digits t ≡ serial_text x.form.serial p.serials) q.behind (subst (λ (g : KeyForm). drop g.digits after ≡ serial_text g.serial p.serials) q.form tail) in
      x.wrong p.serials serial moved
  fine (key.Tag u) w =
      let x = w.1 in
      let q = one_reading s n text (kind_of_parts epc) x.kind p.company x.company p.reference x.reference p.serials x.serials p.reads x.reads in
      let e1 = q.kind in let e2 = q.company in let e3 = q.reference in let e4 = q.serials in
      let same : tag_with x.kind filter x.company x.reference x.serials ≡ tag_with (kind_of_parts epc) filter p.company p.reference p.serials = cc in
      let uri : tag_with (kind_of_parts epc) filter p.company p.reference p.serials ≡ tag_uri epc = ap (λ (cs : List (List ℕ)). tag_start ++ scheme_text (kind_of_parts epc) (join_with_byte 46 cs)) (sym p.is) ∙ sym (uri_is epc) in
      no_fault epc u h (subst (λ (t : List ℕ). HasTagFault t u) (same ∙ uri) x.refused)

pub no_key_fault : (s : Spelling) (epc : Parts) (filter n : ℕ) (text : List ℕ) (fault : KeyFault) → IsLawfulEpc epc → HasFilter filter epc → HasCompanyDigits n epc → IsKeyText s epc text → HasKeyFault s filter n text fault → ⊥
no_key_fault s epc filter n text fault h f d t w = fine s filter n epc text h (epc_reads s filter n epc text h f d t) fault w

-- ---- the EPC of a text that is put together so

pub again : (cs : List (List ℕ)) → AllOfDigits cs → 0 < length cs → components (join_with_byte 46 cs) ≡ cs
again [] h some = absurd (omega arith)
again (c ∷ cs) h some = components_again c cs h

-- scheme and components by the tag URI
record SameTag (kind : Kind) (cs : List (List ℕ)) (epc : Parts) : Type 0 where
  pub kind_is : kind ≡ kind_of_parts epc
  pub components_are : components_of epc ≡ cs

same_tag : (kind : Kind) (first : List ℕ) (cs : List (List ℕ)) (epc : Parts) → IsLawfulEpc epc → AllOfDigits (first ∷ cs) → tag_start ++ scheme_text kind (join_with_byte 46 (first ∷ cs)) ≡ tag_uri epc → SameTag kind (first ∷ cs) epc
same_tag kind first cs epc h digits e =
    let w = written epc h in
    let p = one_scheme kind (kind_of_parts epc) _ _ (append_cancel_left tag_start _ _ (e ∙ uri_is epc)) in
    record { kind_is = p.0; components_are = sym (again (components_of epc) w.digits w.some) ∙ ap components (sym p.1) ∙ components_again first cs digits }

pub padded_one : (f g : ℕ) → f < 8 → g < 8 → padded 1 f ≡ padded 1 g → f ≡ g
padded_one f g p q e =
    let a = value-padded 1 f in let b = value-padded 1 g in
    let v : f % 10 ^ 1 ≡ g % 10 ^ 1 = sym a ∙ ap decimal_value e ∙ b in
    omega (arith, v)

-- what is asked of the EPC holds
pub record Asked (s : Spelling) (filter n : ℕ) (epc : Parts) (text : List ℕ) : Type 0 where
  pub text_is : IsKeyText s epc text
  pub filter_is : HasFilter filter epc
  pub digits_are : HasCompanyDigits n epc

asked_at : (s : Spelling) (filter n : ℕ) (epc : Parts) (text : List ℕ) (company reference : List ℕ) (serials : List (List ℕ)) → IsLawfulEpc epc → filter < 8 → IsKeyText s epc text
    → components_of epc ≡ padded 1 filter ∷ company ∷ reference ∷ serials → length company ≡ n → Asked s filter n epc text
asked_at s filter n (Partitioned kind f k c r last) text company reference serials h low t e l =
    let known : layout_of kind ≡ Some h.has.layout = h.has.scheme in
    let a = at_row kind h.has.layout f k c r last known (sound_of kind h.has.layout known) h in
    let there : partitioned_components (Some h.has.layout) f k c r last ≡ padded 1 filter ∷ company ∷ reference ∷ serials = ap (λ (o : Option Layout). partitioned_components o f k c r last) (sym known) ∙ e in
    let first : padded 1 f ≡ padded 1 filter = cc in
    let second : padded k c ≡ company = cc in
    let fits = a.filter_fits in
    record { text_is = t; filter_is = padded_one f filter fits low first; digits_are = sym (length-padded k c) ∙ ap length second ∙ l }
asked_at s filter n (General m o x) text company reference serials h low t e l = let known = t.known in let none = no_gid s in cc

pub read_epc : (s : Spelling) (filter n : ℕ) (epc : Parts) (text : List ℕ) (kind : Kind) (company reference : List ℕ) (serials : List (List ℕ)) → IsLawfulEpc epc → filter < 8 → ReadsKey s n text kind company reference serials
    → tag_with kind filter company reference serials ≡ tag_uri epc → Asked s filter n epc text
read_epc s filter n epc text kind company reference serials h low r e =
    let digits : AllOfDigits (padded 1 filter ∷ company ∷ reference ∷ serials) = (digits-padded 1 filter, (r.company_digits, (r.reference_digits, serial_digits r.form.serial serials r.serial))) in
    let same = same_tag kind (padded 1 filter) (company ∷ reference ∷ serials) epc h digits e in
    let t : IsKeyText s epc text = record {
      form = r.form;
      known = ap (key_form s) (sym same.kind_is) ∙ r.known;
      written = r.written ∙ ap (key_of r.form) (sym same.components_are);
    } in
    asked_at s filter n epc text company reference serials h low t same.components_are r.counted
