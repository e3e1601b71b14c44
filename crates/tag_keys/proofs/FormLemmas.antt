-- What the table of forms says of each key.
use Rattle.std.proofs.Common.{◌≡◌, ℕ, zero, suc, ◌+◌, ◌*◌, ◌≤◌, Bool, true, false, not, List, [], ◌∷◌, ◌++◌, length, get_or, Option, Some, None, refl, sym, ap, ◌∙◌, subst}
use Rattle.std.specs.Prelude.{◌==◌, ◌&&◌, nat_le, slice_get, unwrap_or, option_map}
use Rattle.std.specs.List.{find}
use Rattle.std.proofs.lemmas.Bool.{leb-true, eqb-true, and_parts}
use Rattle.tag_epc.specs.declared.kind.Kind.{Kind}
use Rattle.tag_epc.specs.declared.kind.Kind.TheVariants.{Sgtin, Gid}
use Rattle.tag_epc.specs.declared.scheme.Row.{Row}
use Rattle.tag_epc.specs.Layout.{Layout, layout_of, row_at}
use Rattle.tag_epc.specs.Private.Layout.{every_kind}
use Rattle.tag_keys.specs.declared.spelling.Spelling.{Spelling}
use Rattle.tag_keys.specs.declared.spelling.Spelling.TheVariants.{Element, Link, Named}
use Rattle.tag_keys.specs.KeyText.{KeyForm, SerialForm, Absent, Marked, MarkedUnlessZero, key_form}

pub same_some : {A : Type 0} (a b : A) → ◌≡◌ {A = Option A} (Some a) (Some b) → a ≡ b
same_some a b e = cc

pub no_gid : (s : Spelling) → key_form s Gid ≡ None
no_gid Element = refl
no_gid Link = refl
no_gid Named = refl

-- ---- sizes

abbrev pub mark_short : SerialForm → Bool
mark_short (Marked m) = nat_le (length m) 5
mark_short (MarkedUnlessZero m) = nat_le (length m) 5
mark_short _ = true

abbrev sizes : Option KeyForm → Bool
sizes None = true
sizes (Some f) = nat_le (length f.start) 25 && nat_le f.lead 1 && nat_le (f.lead + 13) f.digits && nat_le f.digits 18 && mark_short f.serial

sizes_hold : (s : Spelling) (k : Kind) → sizes (key_form s k) ≡ true
sizes_hold Element Sgtin = refl
sizes_hold Element _ = refl
sizes_hold Link Sgtin = refl
sizes_hold Link _ = refl
sizes_hold Named Sgtin = refl
sizes_hold Named _ = refl

pub record Sizes (f : KeyForm) : Type 0 where
  pub start : length f.start ≤ 25
  pub lead : f.lead ≤ 1
  pub room : f.lead + 13 ≤ f.digits
  pub digits : f.digits ≤ 18
  pub mark : mark_short f.serial ≡ true

pub sizes_of : (s : Spelling) (k : Kind) (f : KeyForm) → key_form s k ≡ Some f → Sizes f
sizes_of s k f e =
    let h : sizes (Some f) ≡ true = ap sizes (sym e) ∙ sizes_hold s k in
    let a = and_parts _ _ h in let b = and_parts _ _ a.0 in let d = and_parts _ _ b.0 in let g = and_parts _ _ d.0 in
    record {
      start = leb-true (length f.start) 25 g.0;
      lead = leb-true f.lead 1 g.1;
      room = leb-true (f.lead + 13) f.digits d.1;
      digits = leb-true f.digits 18 b.1;
      mark = a.1;
    }

pub mark_of : (m : List ℕ) → mark_short (Marked m) ≡ true → length m ≤ 5
mark_of m h = leb-true (length m) 5 h

pub mark_of_other : (m : List ℕ) → mark_short (MarkedUnlessZero m) ≡ true → length m ≤ 5
mark_of_other m h = leb-true (length m) 5 h

-- ---- the partition table

abbrev row_total : KeyForm → Row → Bool
row_total f r = (r.company_digits + r.reference_digits + 1 == f.digits) && nat_le f.lead r.reference_digits

abbrev rows_total : KeyForm → List Row → Bool
rows_total f [] = true
rows_total f (r ∷ rs) = row_total f r && rows_total f rs

abbrev pub serial_agrees : Bool → SerialForm → Bool
serial_agrees zero_tail Absent = zero_tail
serial_agrees zero_tail _ = not zero_tail

abbrev agrees : Option Layout → Option KeyForm → Bool
agrees (Some l) (Some f) = rows_total f l.rows && serial_agrees l.zero_tail f.serial
agrees l f = true

agreeing : (s : Spelling) (k : Kind) → agrees (layout_of k) (key_form s k) ≡ true
agreeing Element Sgtin = refl
agreeing Element _ = refl
agreeing Link Sgtin = refl
agreeing Link _ = refl
agreeing Named Sgtin = refl
agreeing Named _ = refl

at_row_total : (f : KeyForm) (p : ℕ) (rs : List Row) (r : Row) → rows_total f rs ≡ true → slice_get rs p ≡ Some r → row_total f r ≡ true
at_row_total f p [] r h e = cc
at_row_total f zero (x ∷ rs) r h e = let same : x ≡ r = cc in subst (λ (y : Row). row_total f y ≡ true) same (and_parts _ _ h).0
at_row_total f (suc p) (x ∷ rs) r h e = at_row_total f p rs r (and_parts _ _ h).1 e

pub record Agrees (l : Layout) (f : KeyForm) : Type 0 where
  pub total : (p : ℕ) (r : Row) → row_at l p ≡ Some r → (r.company_digits + r.reference_digits + 1 ≡ f.digits) × (f.lead ≤ r.reference_digits)
  pub serial : serial_agrees l.zero_tail f.serial ≡ true

pub agrees_at : (s : Spelling) (k : Kind) (l : Layout) (f : KeyForm) → layout_of k ≡ Some l → key_form s k ≡ Some f → Agrees l f
agrees_at s k l f known formed =
    let h : agrees (Some l) (Some f) ≡ true = ap (λ (o : Option Layout). agrees o (Some f)) (sym known) ∙ ap (agrees (layout_of k)) (sym formed) ∙ agreeing s k in
    let a = and_parts _ _ h in
    record {
      total = λ p r e. let b = and_parts _ _ (at_row_total f p l.rows r a.0 e) in (eqb-true (r.company_digits + r.reference_digits + 1) f.digits b.0, leb-true f.lead r.reference_digits b.1);
      serial = a.1;
    }

-- ---- the start

abbrev start_of : Spelling → Kind → List ℕ
start_of s k = unwrap_or (option_map (λ (f : KeyForm). f.start) (key_form s k)) []

-- a number by the first three characters of an application identifier, or of a name
abbrev code : Spelling → List ℕ → ℕ
code Element t = get_or t 1 0 * 1000000 + get_or t 2 0 * 1000 + get_or t 3 0
code Link t = get_or t 19 0 * 1000000 + get_or t 20 0 * 1000 + get_or t 21 0
code Named t = get_or t 0 0 * 1000000 + get_or t 1 0 * 1000 + get_or t 2 0

abbrev kind_by : Spelling → ℕ → Option Kind
kind_by s n = find (λ k. code s (start_of s k) == n) every_kind

abbrev has_form : Option KeyForm → Bool
has_form None = false
has_form (Some f) = true

coded : (s : Spelling) (k : Kind) (x : List ℕ) → has_form (key_form s k) ≡ true → code s (start_of s k ++ x) ≡ code s (start_of s k)
coded Element Gid x h = cc
coded Link Gid x h = cc
coded Named Gid x h = cc
coded Element _ x h = refl
coded Link _ x h = refl
coded Named _ x h = refl

told : (s : Spelling) (k : Kind) → has_form (key_form s k) ≡ true → kind_by s (code s (start_of s k)) ≡ Some k
told Element Gid h = cc
told Link Gid h = cc
told Named Gid h = cc
told Element _ h = refl
told Link _ h = refl
told Named _ h = refl

start_is : (s : Spelling) (k : Kind) (f : KeyForm) → key_form s k ≡ Some f → start_of s k ≡ f.start
start_is s k f e = ap (λ (o : Option KeyForm). unwrap_or (option_map (λ (g : KeyForm). g.start) o) []) e

-- a text begins with the start of one key at most
pub one_start : (s : Spelling) (j k : Kind) (f g : KeyForm) (x y : List ℕ) → key_form s j ≡ Some f → key_form s k ≡ Some g → f.start ++ x ≡ g.start ++ y → j ≡ k
one_start s j k f g x y p q e =
    let hj : has_form (key_form s j) ≡ true = rw p refl in
    let hk : has_form (key_form s k) ≡ true = rw q refl in
    let cj : code s (f.start ++ x) ≡ code s (start_of s j) = ap (λ (t : List ℕ). code s (t ++ x)) (sym (start_is s j f p)) ∙ coded s j x hj in
    let ck : code s (g.start ++ y) ≡ code s (start_of s k) = ap (λ (t : List ℕ). code s (t ++ y)) (sym (start_is s k g q)) ∙ coded s k y hk in
    let same : code s (start_of s j) ≡ code s (start_of s k) = sym cj ∙ ap (code s) e ∙ ck in
    same_some j k (sym (told s j hj) ∙ ap (kind_by s) same ∙ told s k hk)
