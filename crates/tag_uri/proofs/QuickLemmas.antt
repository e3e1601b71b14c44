-- A tag URI read by the places of its dots.
use Rattle.std.proofs.Common.{◌≡◌, ℕ, ◌+◌, ◌-◌, ◌^◌, ◌<◌, ◌≤◌, Bool, true, cond, List, [], ◌∷◌, ◌++◌, Some, length, drop, refl, sym, ap, ◌∙◌, subst, arith, append_assoc, length-append, lit≤}
use Rattle.std.proofs.lemmas.List.{append-nil, drop_at}
use Rattle.std.proofs.Math.Seq.{drop-length}
use Rattle.tag_epc.specs.declared.kind.Kind.{Kind}
use Rattle.tag_epc.specs.declared.kind.Kind.TheVariants.{Sgtin, Gid}
use Rattle.tag_epc.specs.declared.scheme.Row.{Row}
use Rattle.tag_epc.specs.declared.epc.Parts.{Parts}
use Rattle.tag_epc.specs.declared.epc.Parts.TheVariants.{Partitioned, General}
use Rattle.tag_epc.specs.Layout.{Layout, layout_of, scheme_name, row_at}
use Rattle.tag_epc.specs.Calls.Layout.{is_sound}
use Rattle.tag_uri.specs.Decimal.{padded, plain}
use Rattle.tag_uri.specs.TagText.{tag_uri, tag_start, scheme_text}
use Rattle.tag_uri.proofs.ReadLemmas.{FitsLast}
use Rattle.tag_uri.proofs.UriLemmas.{name_at, partitioned_uri, general_uri}

-- a name has at least six letters
name_long : (k : Kind) → 6 ≤ length (scheme_name k)
name_long Sgtin = lit≤ tt
name_long _ = lit≤ tt

-- what follows a scheme's colon
pub behind_colon : (kind : Kind) (text rest : List ℕ) → text ≡ scheme_text kind rest → (drop (length text - length rest) text ≡ rest) × (7 ≤ length text - length rest)
behind_colon kind text rest e =
    let front : List ℕ = scheme_name kind ++ 58 ∷ [] in
    let split : text ≡ front ++ rest = e ∙ sym (append_assoc (scheme_name kind) (58 ∷ []) rest) in
    let long : length front ≡ length (scheme_name kind) + 1 = length-append (scheme_name kind) (58 ∷ []) in
    let whole : length text ≡ length front + length rest = ap length split ∙ length-append front rest in
    let place : length text - length rest ≡ length front = omega (arith, whole) in
    (ap (λ (i : ℕ). drop i text) place ∙ ap (λ (x : List ℕ). drop (length front) x) split ∙ drop_at front rest (length front) refl, omega (arith, place, long, name_long kind))

pub whole_read : (kind : Kind) (text rest octets numbers : List ℕ) (parts : Parts) → text ≡ tag_start ++ rest → rest ≡ scheme_text kind numbers → octets ≡ rest
    → tag_start ++ scheme_text kind (drop (length rest - length numbers) octets) ≡ tag_uri parts → text ≡ tag_uri parts
whole_read kind text rest octets numbers parts e f same is =
    e ∙ ap (λ (x : List ℕ). tag_start ++ x) (f ∙ ap (λ (x : List ℕ). scheme_text kind x) (sym (behind_colon kind rest numbers f).0))
    ∙ ap (λ (x : List ℕ). tag_start ++ scheme_text kind (drop (length rest - length numbers) x)) (sym same) ∙ is

-- the start of a text and its components, in two groupings
joined_start : (name x : List ℕ) → tag_start ++ (name ++ 58 ∷ x) ≡ (tag_start ++ (name ++ 58 ∷ [])) ++ x
joined_start name x = sym (append_assoc tag_start (name ++ 58 ∷ []) x ∙ ap (λ (y : List ℕ). tag_start ++ y) (append_assoc name (58 ∷ []) x))

pub fits_tail : (l : Layout) (b : Bool) (w n : ℕ) → b ≡ l.zero_tail → w ≡ l.last_bits → n < cond b 1 (2 ^ w) → FitsLast l n
fits_tail l b w n tail bits h =
    let here : n < cond l.zero_tail 1 (2 ^ l.last_bits) = rw (tail, bits) at h in
    record {
      zero = λ e. let one : n < cond true 1 (2 ^ l.last_bits) = subst (λ (x : Bool). n < cond x 1 (2 ^ l.last_bits)) e here in omega (arith, one);
      bits = λ e. subst (λ (x : Bool). n < cond x 1 (2 ^ l.last_bits)) e here;
    }

-- a text of a scheme with a company prefix
pub partitioned_read : (kind : Kind) (l : Layout) (row : Row) (f k c r n from p ce q re : ℕ) (b : Bool) (text : List ℕ)
    → layout_of kind ≡ Some l → is_sound l ≡ true → k ≤ 12 → row_at l (12 - k) ≡ Some row → b ≡ l.zero_tail → f < 8
    → drop from text ≡ (48 + f) ∷ 46 ∷ drop p text → drop p text ≡ padded k c ++ drop ce text → drop ce text ≡ 46 ∷ drop q text
    → drop q text ≡ padded row.reference_digits r ++ drop re text → drop re text ≡ cond b [] (46 ∷ plain n)
    → tag_start ++ scheme_text kind (drop from text) ≡ tag_uri (Partitioned kind f k c r n)
partitioned_read kind l row f k c r n from p ce q re b text known sound short placed tail few d0 d1 d2 d3 d4 =
    let x : List ℕ = (48 + f) ∷ 46 ∷ (padded k c ++ 46 ∷ (padded row.reference_digits r ++ cond b [] (46 ∷ plain n))) in
    let e3 : drop q text ≡ padded row.reference_digits r ++ cond b [] (46 ∷ plain n) = d3 ∙ ap (λ (y : List ℕ). padded row.reference_digits r ++ y) d4 in
    let e1 : drop p text ≡ padded k c ++ 46 ∷ (padded row.reference_digits r ++ cond b [] (46 ∷ plain n)) = d1 ∙ ap (λ (y : List ℕ). padded k c ++ y) (d2 ∙ ap (λ (y : List ℕ). 46 ∷ y) e3) in
    let whole : drop from text ≡ x = d0 ∙ ap (λ (y : List ℕ). (48 + f) ∷ 46 ∷ y) e1 in
    ap (λ (y : List ℕ). tag_start ++ scheme_text kind y) whole ∙ joined_start (scheme_name kind) x
    ∙ partitioned_uri kind l row (scheme_name kind) f k c r n b known (name_at kind l known) sound short placed tail few

-- a text of GID-96
pub general_read : (m o s from f g : ℕ) (text : List ℕ)
    → drop from text ≡ plain m ++ drop f text → drop f text ≡ 46 ∷ drop (f + 1) text → drop (f + 1) text ≡ plain o ++ drop g text → drop g text ≡ 46 ∷ drop (g + 1) text
    → drop (g + 1) text ≡ plain s ++ drop (length text) text
    → tag_start ++ scheme_text Gid (drop from text) ≡ tag_uri (General m o s)
general_read m o s from f g text d0 d1 d2 d3 d4 =
    let x : List ℕ = plain m ++ 46 ∷ (plain o ++ 46 ∷ plain s) in
    let e4 : drop (g + 1) text ≡ plain s = d4 ∙ ap (λ (y : List ℕ). plain s ++ y) (drop-length text) ∙ append-nil (plain s) in
    let e2 : drop (f + 1) text ≡ plain o ++ 46 ∷ plain s = d2 ∙ ap (λ (y : List ℕ). plain o ++ y) (d3 ∙ ap (λ (y : List ℕ). 46 ∷ y) e4) in
    let whole : drop from text ≡ x = d0 ∙ ap (λ (y : List ℕ). plain m ++ y) (d1 ∙ ap (λ (y : List ℕ). 46 ∷ y) e2) in
    ap (λ (y : List ℕ). tag_start ++ scheme_text Gid y) whole ∙ joined_start (scheme_name Gid) x ∙ general_uri m o s (scheme_name Gid) refl
