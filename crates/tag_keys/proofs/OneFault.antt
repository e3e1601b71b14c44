-- One rule at most is the first that refuses a text.
use Rattle.std.proofs.Common.{◌≡◌, ℕ, ◌<◌, ◌≤◌, true, false, List, [], ◌∷◌, ◌++◌, length, length-append, get_or, take, drop, refl, sym, ap, ◌∙◌, subst, arith}
use Rattle.std.proofs.lemmas.Bool.{true≢false}
use Rattle.std.proofs.lemmas.List.{append_cancel_left}
use Rattle.tag_epc.specs.declared.kind.Kind.{Kind}
use Rattle.tag_uri.specs.declared.fault.UriFault.{UriFault}
use Rattle.tag_uri.specs.Calls.Decimal.{AreDigits}
use Rattle.tag_uri.specs.TagText.{is_strange, HasTagFault}
use Rattle.tag_uri.proofs.TextLaws.{one_tag_fault}
use Rattle.tag_keys.specs.declared.fault.KeyFault.{KeyFault}
use Rattle.tag_keys.specs.declared.fault.KeyFault.TheVariants as key
use Rattle.tag_keys.specs.declared.spelling.Spelling.{Spelling}
use Rattle.tag_keys.specs.CheckDigit.{is_checked, check_digit}
use Rattle.tag_keys.specs.PureIdentity.{id_start, id_text, ReadsId}
use Rattle.tag_keys.specs.KeyText.{KeyForm, key_digits, serial_text}
use Rattle.tag_keys.specs.KeyFaults.{AreSerials, BeginsKey, HasFewDigits, HasStrangeDigit, IsRightDigit, HasWrongCheck, HasWrongSerial, HasWrongNumber, HasKeyFault, HasIdFault, tag_with}
use Rattle.tag_keys.proofs.CheckLemmas.{checks}
use Rattle.tag_keys.proofs.PieceLemmas.{not_strange}
use Rattle.tag_keys.proofs.KeyLaws.{behind, SameRest, same_rest, behind_long, front_is, front_digits, back_is, one_reading}
use Rattle.tag_keys.proofs.IdLaws.{one_id_scheme, tag_of}

same_front : (xs ys : List ℕ) (x y : ℕ) → xs ++ x ∷ [] ≡ ys ++ y ∷ [] → xs ≡ ys
same_front [] [] x y e = refl
same_front [] (y ∷ ys) x z e = let l = ap length e in let k = length-append ys (z ∷ []) in absurd (omega (arith, l, k))
same_front (x ∷ xs) [] y z e = let l = ap length e in let k = length-append xs (y ∷ []) in absurd (omega (arith, l, k))
same_front (x ∷ xs) (y ∷ ys) a b e =
    let head : x ≡ y = ap (λ (t : List ℕ). get_or t 0 0) e in
    let tail = same_front xs ys a b (ap (drop 1) e) in
    cc

module _ (s : Spelling) (filter n : ℕ) (text : List ℕ) where
  pub same_begin : (f g : KeyForm) (x y : List ℕ) → BeginsKey s text f x → BeginsKey s text g y → SameRest f g x y
  same_begin f g x y a b = same_rest s a.kind text f g x y a.known a.begins b

  pub few_enough : (a : HasFewDigits s text) (f : KeyForm) (x : List ℕ) → BeginsKey s text f x → f.digits ≤ length x → ⊥
  few_enough a f x b enough =
      let q = same_begin a.form f a.rest x a.begins b in
      let few : length x < f.digits = subst (λ (t : List ℕ). length t < f.digits) q.behind (subst (λ (g : KeyForm). length a.rest < g.digits) q.form a.few) in
      omega (arith, few, enough)

  pub strange_digits : (a : HasStrangeDigit s text) (f : KeyForm) (x : List ℕ) → BeginsKey s text f x → AreDigits (take f.digits x) → ⊥
  strange_digits a f x b digits =
      let q = same_begin a.form f a.rest x a.begins b in
      let strange : is_strange (take f.digits x) ≡ true = subst (λ (t : List ℕ). is_strange (take f.digits t) ≡ true) q.behind (subst (λ (g : KeyForm). is_strange (take g.digits a.rest) ≡ true) q.form a.strange) in
      true≢false (sym strange ∙ not_strange _ digits)

  wrong_right : (d : ℕ) (a : HasWrongCheck s text d) (f : KeyForm) (x : List ℕ) → BeginsKey s text f x → is_checked (take f.digits x) ≡ true → ⊥
  wrong_right d a f x b right =
      let q = same_begin a.form f a.rest x a.begins b in
      let wrong : is_checked (take f.digits x) ≡ false = subst (λ (t : List ℕ). is_checked (take f.digits t) ≡ false) q.behind (subst (λ (g : KeyForm). is_checked (take g.digits a.rest) ≡ false) q.form a.wrong) in
      true≢false (sym right ∙ wrong)

  one_right : (digits : List ℕ) (d e : ℕ) → IsRightDigit digits d → IsRightDigit digits e → d ≡ e
  one_right digits d e a b =
      let same = same_front a.others b.others a.last b.last (sym a.split ∙ b.split) in
      a.is ∙ ap check_digit same ∙ sym b.is

  same_right : (d e : ℕ) → HasWrongCheck s text d → HasWrongCheck s text e → d ≡ e
  same_right d e a b =
      let q = same_begin a.form b.form a.rest b.rest a.begins b.begins in
      let right : IsRightDigit (take b.form.digits b.rest) d = subst (λ (t : List ℕ). IsRightDigit (take b.form.digits t) d) q.behind (subst (λ (g : KeyForm). IsRightDigit (take g.digits a.rest) d) q.form a.digit) in
      one_right (take b.form.digits b.rest) d e right b.digit

  -- what a text that is put together as a key shows
  record Good : Type 0 where
    pub form : KeyForm
    pub rest : List ℕ
    pub begins : BeginsKey s text form rest
    pub enough : form.digits ≤ length rest
    pub digits : AreDigits (take form.digits rest)
    pub right : is_checked (take form.digits rest) ≡ true
    pub serials : List (List ℕ)
    pub are : AreSerials form.serial serials
    pub tail : drop form.digits rest ≡ serial_text form.serial serials

  good : (u : UriFault) → HasWrongNumber s filter n text u → Good
  good u w =
      let r = w.reads in
      let front = front_is r.form w.company w.reference w.serials r.whole in
      record {
        form = r.form;
        rest = behind r.form w.company w.reference w.serials;
        begins = record { kind = w.kind; known = r.known; begins = r.written };
        enough = behind_long r.form w.company w.reference w.serials r.whole;
        digits = subst AreDigits (sym front) (front_digits r.form.lead w.company w.reference r.company_digits r.reference_digits);
        right = subst (λ (t : List ℕ). is_checked t ≡ true) (sym front) (checks (key_digits r.form.lead w.company w.reference));
        serials = w.serials;
        are = r.serial;
        tail = back_is r.form w.company w.reference w.serials r.whole;
      }

  serial_good : HasWrongSerial s text → Good → ⊥
  serial_good a b =
      let q = same_begin a.form b.form a.rest b.rest a.begins b.begins in
      let are : AreSerials a.form.serial b.serials = subst (λ (g : KeyForm). AreSerials g.serial b.serials) (sym q.form) b.are in
      let tail : drop a.form.digits a.rest ≡ serial_text a.form.serial b.serials = subst (λ (t : List ℕ). drop a.form.digits t ≡ serial_text a.form.serial b.serials) (sym q.behind) (subst (λ (g : KeyForm). drop g.digits b.rest ≡ serial_text g.serial b.serials) (sym q.form) b.tail) in
      a.wrong b.serials are tail

  same_number : (u v : UriFault) → HasWrongNumber s filter n text u → HasWrongNumber s filter n text v → u ≡ v
  same_number u v a b =
      let q = one_reading s n text a.kind b.kind a.company b.company a.reference b.reference a.serials b.serials a.reads b.reads in
      let e1 = q.kind in let e2 = q.company in let e3 = q.reference in let e4 = q.serials in
      let same : tag_with a.kind filter a.company a.reference a.serials ≡ tag_with b.kind filter b.company b.reference b.serials = cc in
      one_tag_fault _ u v (subst (λ (t : List ℕ). HasTagFault t u) same a.refused) b.refused

  -- where a rule applies
  data Told (f : KeyFault) : Type 0 where
    long : f ≡ key.Long → 96 < length text → Told f
    start : f ≡ key.Start → length text ≤ 96 → ((form : KeyForm) (rest : List ℕ) → BeginsKey s text form rest → ⊥) → Told f
    few : f ≡ key.Length → length text ≤ 96 → HasFewDigits s text → Told f
    strange : f ≡ key.Digit → length text ≤ 96 → HasStrangeDigit s text → Told f
    check : (d : ℕ) → f ≡ key.Check d → length text ≤ 96 → HasWrongCheck s text d → Told f
    serial : f ≡ key.Serial → length text ≤ 96 → HasWrongSerial s text → Told f
    number : (u : UriFault) → f ≡ key.Tag u → length text ≤ 96 → HasWrongNumber s filter n text u → Told f

  told_by : (f : KeyFault) → HasKeyFault s filter n text f → Told f
  told_by key.Long h = long refl h
  told_by key.Start h = start refl h.0 h.1
  told_by key.Length h = few refl h.0 h.1
  told_by key.Digit h = strange refl h.0 h.1
  told_by (key.Check d) h = check d refl h.0 h.1
  told_by key.Serial h = serial refl h.0 h.1
  told_by (key.Tag u) h = number u refl h.0 h.1
  told_by key.Scheme h = absurd h

  too_long : 96 < length text → length text ≤ 96 → ⊥
  too_long a b = omega (arith, a, b)

  one_told : (f g : KeyFault) → Told f → Told g → f ≡ g
  one_told f g (long ae ax) (long be bx) = ae ∙ sym be
  one_told f g (long ae ax) (start be bl bx) = absurd (too_long ax bl)
  one_told f g (long ae ax) (few be bl bx) = absurd (too_long ax bl)
  one_told f g (long ae ax) (strange be bl bx) = absurd (too_long ax bl)
  one_told f g (long ae ax) (check bd be bl bx) = absurd (too_long ax bl)
  one_told f g (long ae ax) (serial be bl bx) = absurd (too_long ax bl)
  one_told f g (long ae ax) (number bu be bl bx) = absurd (too_long ax bl)
  one_told f g (start ae al ax) (long be bx) = absurd (too_long bx al)
  one_told f g (start ae al ax) (start be bl bx) = ae ∙ sym be
  one_told f g (start ae al ax) (few be bl bx) = absurd (ax bx.form bx.rest bx.begins)
  one_told f g (start ae al ax) (strange be bl bx) = absurd (ax bx.form bx.rest bx.begins)
  one_told f g (start ae al ax) (check bd be bl bx) = absurd (ax bx.form bx.rest bx.begins)
  one_told f g (start ae al ax) (serial be bl bx) = absurd (ax bx.form bx.rest bx.begins)
  one_told f g (start ae al ax) (number bu be bl bx) = let w = good bu bx in absurd (ax w.form w.rest w.begins)
  one_told f g (few ae al ax) (long be bx) = absurd (too_long bx al)
  one_told f g (few ae al ax) (start be bl bx) = absurd (bx ax.form ax.rest ax.begins)
  one_told f g (few ae al ax) (few be bl bx) = ae ∙ sym be
  one_told f g (few ae al ax) (strange be bl bx) = absurd (few_enough ax bx.form bx.rest bx.begins bx.enough)
  one_told f g (few ae al ax) (check bd be bl bx) = absurd (few_enough ax bx.form bx.rest bx.begins bx.enough)
  one_told f g (few ae al ax) (serial be bl bx) = absurd (few_enough ax bx.form bx.rest bx.begins bx.enough)
  one_told f g (few ae al ax) (number bu be bl bx) = let w = good bu bx in absurd (few_enough ax w.form w.rest w.begins w.enough)
  one_told f g (strange ae al ax) (long be bx) = absurd (too_long bx al)
  one_told f g (strange ae al ax) (start be bl bx) = absurd (bx ax.form ax.rest ax.begins)
  one_told f g (strange ae al ax) (few be bl bx) = absurd (few_enough bx ax.form ax.rest ax.begins ax.enough)
  one_told f g (strange ae al ax) (strange be bl bx) = ae ∙ sym be
  one_told f g (strange ae al ax) (check bd be bl bx) = absurd (strange_digits ax bx.form bx.rest bx.begins bx.digits)
  one_told f g (strange ae al ax) (serial be bl bx) = absurd (strange_digits ax bx.form bx.rest bx.begins bx.digits)
  one_told f g (strange ae al ax) (number bu be bl bx) = let w = good bu bx in absurd (strange_digits ax w.form w.rest w.begins w.digits)
  one_told f g (check ad ae al ax) (long be bx) = absurd (too_long bx al)
  one_told f g (check ad ae al ax) (start be bl bx) = absurd (bx ax.form ax.rest ax.begins)
  one_told f g (check ad ae al ax) (few be bl bx) = absurd (few_enough bx ax.form ax.rest ax.begins ax.enough)
  one_told f g (check ad ae al ax) (strange be bl bx) = absurd (strange_digits bx ax.form ax.rest ax.begins ax.digits)
  one_told f g (check ad ae al ax) (check bd be bl bx) = ae ∙ ap key.Check (same_right ad bd ax bx) ∙ sym be
  one_told f g (check ad ae al ax) (serial be bl bx) = absurd (wrong_right ad ax bx.form bx.rest bx.begins bx.right)
  one_told f g (check ad ae al ax) (number bu be bl bx) = let w = good bu bx in absurd (wrong_right ad ax w.form w.rest w.begins w.right)
  one_told f g (serial ae al ax) (long be bx) = absurd (too_long bx al)
  one_told f g (serial ae al ax) (start be bl bx) = absurd (bx ax.form ax.rest ax.begins)
  one_told f g (serial ae al ax) (few be bl bx) = absurd (few_enough bx ax.form ax.rest ax.begins ax.enough)
  one_told f g (serial ae al ax) (strange be bl bx) = absurd (strange_digits bx ax.form ax.rest ax.begins ax.digits)
  one_told f g (serial ae al ax) (check bd be bl bx) = absurd (wrong_right bd bx ax.form ax.rest ax.begins ax.right)
  one_told f g (serial ae al ax) (serial be bl bx) = ae ∙ sym be
  one_told f g (serial ae al ax) (number bu be bl bx) = let w = good bu bx in absurd (serial_good ax w)
  one_told f g (number au ae al ax) (long be bx) = absurd (too_long bx al)
  one_told f g (number au ae al ax) (start be bl bx) = let w = good au ax in absurd (bx w.form w.rest w.begins)
  one_told f g (number au ae al ax) (few be bl bx) = let w = good au ax in absurd (few_enough bx w.form w.rest w.begins w.enough)
  one_told f g (number au ae al ax) (strange be bl bx) = let w = good au ax in absurd (strange_digits bx w.form w.rest w.begins w.digits)
  one_told f g (number au ae al ax) (check bd be bl bx) = let w = good au ax in absurd (wrong_right bd bx w.form w.rest w.begins w.right)
  one_told f g (number au ae al ax) (serial be bl bx) = let w = good au ax in absurd (serial_good bx w)
  one_told f g (number au ae al ax) (number bu be bl bx) = ae ∙ ap key.Tag (same_number au bu ax bx) ∙ sym be

  pub one_key_fault : (f g : KeyFault) → HasKeyFault s filter n text f → HasKeyFault s filter n text g → f ≡ g
  one_key_fault f g a b = one_told f g (told_by f a) (told_by g b)

module _ (filter : ℕ) (text : List ℕ) where
  data ToldId (f : KeyFault) : Type 0 where
    long_id : f ≡ key.Long → 96 < length text → ToldId f
    start_id : f ≡ key.Start → length text ≤ 96 → ((rest : List ℕ) → text ≡ id_start ++ rest → ⊥) → ToldId f
    scheme_id : f ≡ key.Scheme → length text ≤ 96 → (rest : List ℕ) → text ≡ id_start ++ rest → ((kind : Kind) (more : List ℕ) → rest ≡ id_text kind more → ⊥) → ToldId f
    tag_id : (u : UriFault) → f ≡ key.Tag u → length text ≤ 96 → (tag : List ℕ) → ReadsId filter text tag → HasTagFault tag u → ToldId f

  told_id : (f : KeyFault) → HasIdFault filter text f → ToldId f
  told_id key.Long h = long_id refl h
  told_id key.Start h = start_id refl h.0 h.1
  told_id key.Scheme h = scheme_id refl h.0 h.1 h.2 h.3
  told_id (key.Tag u) h = tag_id u refl h.0 h.1 h.2 h.3
  told_id key.Length h = absurd h
  told_id key.Digit h = absurd h
  told_id (key.Check right) h = absurd h
  told_id key.Serial h = absurd h

  long_short : 96 < length text → length text ≤ 96 → ⊥
  long_short a b = omega (arith, a, b)

  named_scheme : (rest tag : List ℕ) → text ≡ id_start ++ rest → ((kind : Kind) (more : List ℕ) → rest ≡ id_text kind more → ⊥) → ReadsId filter text tag → ⊥
  named_scheme rest tag e h r = h r.kind r.rest (append_cancel_left id_start _ _ (sym e ∙ r.named))

  same_tags : (t u : List ℕ) → ReadsId filter text t → ReadsId filter text u → t ≡ u
  same_tags t u a b =
      let p = one_id_scheme a.kind b.kind a.rest b.rest (append_cancel_left id_start _ _ (sym a.named ∙ b.named)) in
      a.tagged ∙ ap (λ (k : Kind). tag_of k filter a.rest) p.0 ∙ ap (tag_of b.kind filter) p.1 ∙ sym b.tagged

  one_told_id : (f g : KeyFault) → ToldId f → ToldId g → f ≡ g
  one_told_id f g (long_id ae ax) (long_id be bx) = ae ∙ sym be
  one_told_id f g (long_id ae ax) (start_id be bl bx) = absurd (long_short ax bl)
  one_told_id f g (long_id ae ax) (scheme_id be bl br bn bx) = absurd (long_short ax bl)
  one_told_id f g (long_id ae ax) (tag_id bu be bl bt br bx) = absurd (long_short ax bl)
  one_told_id f g (start_id ae al ax) (long_id be bx) = absurd (long_short bx al)
  one_told_id f g (start_id ae al ax) (start_id be bl bx) = ae ∙ sym be
  one_told_id f g (start_id ae al ax) (scheme_id be bl br bn bx) = absurd (ax br bn)
  one_told_id f g (start_id ae al ax) (tag_id bu be bl bt br bx) = absurd (ax _ br.named)
  one_told_id f g (scheme_id ae al ar an ax) (long_id be bx) = absurd (long_short bx al)
  one_told_id f g (scheme_id ae al ar an ax) (start_id be bl bx) = absurd (bx ar an)
  one_told_id f g (scheme_id ae al ar an ax) (scheme_id be bl br bn bx) = ae ∙ sym be
  one_told_id f g (scheme_id ae al ar an ax) (tag_id bu be bl bt br bx) = absurd (named_scheme ar bt an ax br)
  one_told_id f g (tag_id au ae al at ar ax) (long_id be bx) = absurd (long_short bx al)
  one_told_id f g (tag_id au ae al at ar ax) (start_id be bl bx) = absurd (bx _ ar.named)
  one_told_id f g (tag_id au ae al at ar ax) (scheme_id be bl br bn bx) = absurd (named_scheme br at bn bx ar)
  one_told_id f g (tag_id au ae al at ar ax) (tag_id bu be bl bt br bx) = ae ∙ ap key.Tag (one_tag_fault bt au bu (subst (λ (t : List ℕ). HasTagFault t au) (same_tags at bt ar br) ax) bx) ∙ sym be

  pub one_id_fault : (f g : KeyFault) → HasIdFault filter text f → HasIdFault filter text g → f ≡ g
  one_id_fault f g a b = one_told_id f g (told_id f a) (told_id g b)
