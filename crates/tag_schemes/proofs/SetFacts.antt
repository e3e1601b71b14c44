-- Words of further schemes: one EPC each, and none of the older set.
use Rattle.std.proofs.Common.{◌≡◌, ℕ, ◌-◌, ◌^◌, ◌<◌, ◌≤◌, false, List, [], ◌++◌, Some, refl, sym, ap, subst, ◌∙◌, arith}
use Rattle.std.specs.Prelude.{◌==◌}
use Rattle.std.proofs.lemmas.Bool.{eq-eqb}
use Rattle.std.proofs.lemmas.List.{append-nil}
use Rattle.std.proofs.Math.Nat.{pow-le-pow_right}
use Rattle.tag_bits.specs.Digits.{digits, word_digits}
use Rattle.tag_bits.proofs.DigitLemmas.{digits-injective}
use Rattle.tag_epc.specs.declared.kind.Kind.{Kind}
use Rattle.tag_epc.specs.declared.kind.Kind.TheVariants.{Sgtin, Sscc, Sgln, Grai, Gdti, Gsrn, Gid}
use Rattle.tag_epc.specs.declared.epc.Parts.{Parts}
use Rattle.tag_epc.specs.declared.scheme.Row.{Row}
use Rattle.tag_epc.specs.Layout.{row_at, header_of}
use Rattle.tag_epc.specs.LawfulWord as older
use Rattle.tag_epc.specs.LawfulWord.{Field, AllFit, fields_digits, kind_of_parts}
use Rattle.tag_epc.proofs.FieldLemmas.{same_part}
use Rattle.tag_epc.proofs.OneReading.{fields_begin, header_below}
use Rattle.tag_schemes.specs.declared.numbers.Numbers.{Numbers}
use Rattle.tag_schemes.specs.declared.scheme.Scheme.{Scheme}
use Rattle.tag_schemes.specs.declared.scheme.Scheme.TheVariants.{Giai, Gsrnp, Sgcn, Cpi}
use Rattle.tag_schemes.specs.Schemes.{layout_in}
use Rattle.tag_schemes.specs.LawfulWord.{IsLawful, HasWord}
use Rattle.tag_schemes.specs.WordFaults.{HasHeader}
use Rattle.tag_schemes.proofs.RowFacts.{Fills, fills}
use Rattle.tag_schemes.specs.Private.LastSegments.{IsLastIn}
use Rattle.tag_schemes.proofs.WordFacts.{told, one_scheme, spelled_by, last_in}

-- the header of each scheme has eight bits
further_below : (s : Scheme) → (layout_in s).header < 2 ^ 8
further_below Giai = omega arith
further_below Gsrnp = omega arith
further_below Sgcn = omega arith
further_below Cpi = omega arith

-- a word has an EPC in one set at most
differ : (k : Kind) (s : Scheme) → (header_of k == (layout_in s).header) ≡ false
differ Sgtin Giai = refl
differ Sgtin Gsrnp = refl
differ Sgtin Sgcn = refl
differ Sgtin Cpi = refl
differ Sscc Giai = refl
differ Sscc Gsrnp = refl
differ Sscc Sgcn = refl
differ Sscc Cpi = refl
differ Sgln Giai = refl
differ Sgln Gsrnp = refl
differ Sgln Sgcn = refl
differ Sgln Cpi = refl
differ Grai Giai = refl
differ Grai Gsrnp = refl
differ Grai Sgcn = refl
differ Grai Cpi = refl
differ Gdti Giai = refl
differ Gdti Gsrnp = refl
differ Gdti Sgcn = refl
differ Gdti Cpi = refl
differ Gsrn Giai = refl
differ Gsrn Gsrnp = refl
differ Gsrn Sgcn = refl
differ Gsrn Cpi = refl
differ Gid Giai = refl
differ Gid Gsrnp = refl
differ Gid Sgcn = refl
differ Gid Cpi = refl

apart : (k : Kind) (s : Scheme) → header_of k ≡ (layout_in s).header → ⊥
apart k s e = let a = eq-eqb (header_of k) (layout_in s).header e in let b = differ k s in cc

-- a word of the older set begins with no header of a further scheme
pub header_apart : (d : Parts) (s : Scheme) (w : ℕ) → older.HasWord d w → HasHeader s w → ⊥
header_apart d s w a b =
    let begins = fields_begin d a.lawful.fields [] (word_digits w) a.lawful.has (a.spelled ∙ sym (append-nil (fields_digits a.lawful.fields))) in
    apart (kind_of_parts d) s (same_part 8 (header_of (kind_of_parts d)) (layout_in s).header begins.rest _ (header_below (kind_of_parts d)) (further_below s) (sym begins.is ∙ b.begins)).0

pub sets_apart : (d : Parts) (e : Numbers) (w : ℕ) → older.HasWord d w → HasWord e w → ⊥
sets_apart d e w a b = header_apart d e.scheme w a (record { rest = _; begins = (told e w b).spelled })

same_row : (a b : Row) → Some a ≡ Some b → a ≡ b
same_row a b e = cc

-- an EPC has one word
pub one_word : (epc : Numbers) (v w : ℕ) → v < 2 ^ 96 → w < 2 ^ 96 → HasWord epc v → HasWord epc w → v ≡ w
unfolding word_digits
one_word epc v w p q a b =
    let s = told epc v a in let t = told epc w b in
    let place : s.partition ≡ t.partition = omega (arith, s.counted, t.counted) in
    let row : s.row ≡ t.row = same_row s.row t.row (sym s.placed ∙ ap (λ (x : ℕ). row_at (layout_in epc.scheme) x) place ∙ t.placed) in
    digits-injective 96 v w p q (s.spelled ∙ ap (λ (x : Row). spelled_by (layout_in epc.scheme) x epc.filter s.partition epc.company epc.reference epc.last) row
    ∙ ap (λ (x : ℕ). spelled_by (layout_in epc.scheme) t.row epc.filter x epc.company epc.reference epc.last) place ∙ sym t.spelled)

-- a word has one EPC
pub one_epc : (d e : Numbers) (w : ℕ) → HasWord d w → HasWord e w → d ≡ e
one_epc d e w a b =
    let s = told d w a in let t = told e w b in
    let p0 = same_part 8 (layout_in d.scheme).header (layout_in e.scheme).header _ _ (further_below d.scheme) (further_below e.scheme) (sym s.spelled ∙ t.spelled) in
    let p1 = same_part 3 d.filter e.filter _ _ s.filter t.filter p0.1 in
    let p2 = same_part 3 s.partition t.partition _ _ (omega (arith, s.fills.partition)) (omega (arith, t.fills.partition)) p1.1 in
    let scheme : d.scheme ≡ e.scheme = one_scheme d.scheme e.scheme p0.0 in
    let row : t.row ≡ s.row = same_row t.row s.row (sym t.placed ∙ ap (λ (x : ℕ). row_at (layout_in e.scheme) x) (sym p2.0) ∙ ap (λ (x : Scheme). row_at (layout_in x) s.partition) (sym scheme) ∙ s.placed) in
    let company_bits : e.company < 2 ^ s.row.company_bits = subst (λ (x : Row). e.company < 2 ^ x.company_bits) row t.company_bits in
    let reference_bits : e.reference < 2 ^ s.row.reference_bits = subst (λ (x : Row). e.reference < 2 ^ x.reference_bits) row t.reference_bits in
    let there : digits s.row.company_bits d.company ++ (digits s.row.reference_bits d.reference ++ (digits (layout_in d.scheme).last_bits d.last ++ [])) ≡ digits s.row.company_bits e.company ++ (digits s.row.reference_bits e.reference ++ (digits (layout_in e.scheme).last_bits e.last ++ []))
    = p2.1 ∙ ap (λ (x : Row). digits x.company_bits e.company ++ (digits x.reference_bits e.reference ++ (digits (layout_in e.scheme).last_bits e.last ++ []))) row in
    let p3 = same_part s.row.company_bits d.company e.company _ _ s.company_bits company_bits there in
    let p4 = same_part s.row.reference_bits d.reference e.reference _ _ s.reference_bits reference_bits p3.1 in
    let width : (layout_in e.scheme).last_bits ≡ (layout_in d.scheme).last_bits = ap (λ (x : Scheme). (layout_in x).last_bits) (sym scheme) in
    let last_bits : e.last < 2 ^ (layout_in d.scheme).last_bits = subst (λ (x : ℕ). e.last < 2 ^ x) width t.last_bits in
    let p5 = same_part (layout_in d.scheme).last_bits d.last e.last _ _ s.last_bits last_bits (p4.1 ∙ ap (λ (x : ℕ). digits x e.last ++ []) width) in
    let counted : d.company_digits ≡ e.company_digits = omega (arith, s.counted, t.counted, p2.0) in
    numbers d.scheme d.filter d.company_digits d.company d.reference d.last e.scheme e.filter e.company_digits e.company e.reference e.last scheme p1.0 counted p3.0 p4.0 p5.0
  where
    made : Scheme → ℕ → ℕ → ℕ → ℕ → ℕ → Numbers
    made s f k c t n = record { scheme = s; filter = f; company_digits = k; company = c; reference = t; last = n }

    numbers : (s : Scheme) (f k c t n : ℕ) (z : Scheme) (g m u v o : ℕ) → s ≡ z → f ≡ g → k ≡ m → c ≡ u → t ≡ v → n ≡ o → made s f k c t n ≡ made z g m u v o
    numbers s f k c t n z g m u v o a b p q r h = rw (a, b, p, q, r, h) refl

-- ---- the numbers of a lawful EPC

pub record Facts (m : Numbers) : Type 0 where
  pub row : Row
  pub least : 6 ≤ m.company_digits
  pub most : m.company_digits ≤ 12
  pub placed : row_at (layout_in m.scheme) (12 - m.company_digits) ≡ Some row
  pub digits : row.company_digits ≡ m.company_digits
  pub filter : m.filter < 8
  pub company : m.company < 10 ^ m.company_digits
  pub reference_bits : m.reference < 2 ^ row.reference_bits
  pub reference : m.reference < 10 ^ row.reference_digits
  pub small : m.reference < 2 ^ 64
  pub last_bits : m.last < 2 ^ (layout_in m.scheme).last_bits
  pub last : IsLastIn m.scheme m.last
  pub fills : Fills (layout_in m.scheme) (12 - m.company_digits) row

pub facts : (m : Numbers) → IsLawful m → Facts m
facts m a =
    let all = subst (λ (fs : List Field). AllFit fs) a.has.filled a.fit in
    let place : a.has.partition ≡ 12 - m.company_digits = omega (arith, a.has.counted) in
    let placed : row_at (layout_in m.scheme) (12 - m.company_digits) ≡ Some a.has.row = subst (λ (x : ℕ). row_at (layout_in m.scheme) x ≡ Some a.has.row) place a.has.placed in
    let fit = fills m.scheme (12 - m.company_digits) a.has.row placed in
    let counted : a.has.row.company_digits ≡ m.company_digits = omega (arith, fit.digits, a.has.counted) in
    let company : m.company < 10 ^ a.has.row.company_digits = all.1.1.1.0.decimals in
    let filter : m.filter < 2 ^ 3 = all.1.0.bits in
    let bits : m.reference < 2 ^ a.has.row.reference_bits = all.1.1.1.1.0.bits in
    record {
      row = a.has.row;
      least = omega (arith, fit.partition, a.has.counted);
      most = omega (arith, a.has.counted);
      placed = placed;
      digits = counted;
      filter = omega arith;
      company = subst (λ (x : ℕ). m.company < 10 ^ x) counted company;
      reference_bits = bits;
      reference = all.1.1.1.1.0.decimals;
      small = omega (arith, bits, pow-le-pow_right {n = 2} (omega arith) {i = a.has.row.reference_bits} {j = 64} (omega (arith, fit.reference)));
      last_bits = all.1.1.1.1.1.0.bits;
      last = last_in m.scheme m.last all.1.1.1.1.1.0 a.serial;
      fills = fit;
    }
