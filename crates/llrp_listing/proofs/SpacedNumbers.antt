-- The numbers of a line that has several.
use Rattle.std.proofs.Common.{◌≡◌, ℕ, ◌+◌, ◌^◌, ◌<◌, ◌≤◌, List, [], ◌∷◌, ◌++◌, length, drop, map, decimal, refl, sym, ap, subst, ◌∙◌, append_assoc, arith}
use Rattle.std.proofs.lemmas.List.{append-nil, drop_all}
use Rattle.llrp_schema.specs.declared.kinds.KindSet.{KindSet}
use Rattle.llrp_schema.specs.declared.kinds.Field.{Field}
use Rattle.llrp_schema.specs.declared.kinds.ParamKind.{ParamKind}
use Rattle.llrp_schema.specs.declared.kinds.Tail.TheVariants.{Absent}
use Rattle.llrp_schema.specs.declared.kinds.Kind.TheVariants.{Parameter}
use Rattle.llrp_schema.specs.Schema.{FieldRule, fields_of, name_of, set_of_kind, tail_of}
use Rattle.llrp_schema.specs.Calls.Schema.{field_rule}
use Rattle.llrp_tree.specs.declared.TheConstants.{MAX_DEPTH}
use Rattle.llrp_listing.specs.Private.Encoder.{SaysAt}
use Rattle.llrp_listing.specs.LineChecks.{AreInForm, IsInForm}
use Rattle.llrp_listing.specs.declared.parse_line.TheConstants.{LONGEST_LINE}
use Rattle.llrp_listing.specs.Private.LineReading.{forms_of}
use Rattle.llrp_listing.specs.NodeLine.{AreNumberTexts, IsNumberText, NumberForm, Unsigned, number_forms, parameter_line, spaced}
use Rattle.llrp_listing.specs.Private.ShortLines.{AreAllNumbers, AreSpaced}
use Rattle.llrp_listing.proofs.NamedLines.{says}

-- no field, no number
pub none_spaced : (forms : List NumberForm) (line : List ℕ) (from : ℕ) (old : List ℕ) → forms ≡ [] → AreSpaced forms line from from old old
none_spaced forms line from old e = subst (λ (fs : List NumberForm). AreSpaced fs line from from old old) (sym e) (record { words = []; numbers = []; added = sym (append-nil old); in_form = tt; are = tt; text = refl })

-- one field more
pub more_spaced : (form : NumberForm) (forms all : List NumberForm) (line : List ℕ) (from mid end n : ℕ) (old part new : List ℕ) → all ≡ form ∷ forms → form ≡ Unsigned → n < 10 ^ 20 → drop from line ≡ 32 ∷ (decimal n ++ drop mid line) → part ≡ old ++ (n ∷ []) → AreSpaced forms line mid end part new → AreSpaced all line from end old new
more_spaced form forms all line from mid end n old part new e u lt t p s =
    subst (λ (fs : List NumberForm). AreSpaced fs line from end old new) (sym e) (record {
      words = decimal n ∷ s.words;
      numbers = n ∷ s.numbers;
      added = s.added ∙ ap (λ (z : List ℕ). z ++ s.numbers) p ∙ append_assoc old (n ∷ []) s.numbers;
      in_form = (subst (λ (f : NumberForm). IsInForm f n) (sym u) lt, s.in_form);
      are = (subst (λ (f : NumberForm). IsNumberText f n (decimal n)) (sym u) refl, s.are);
      text = t ∙ ap (λ (z : List ℕ). 32 ∷ (decimal n ++ z)) s.text ∙ ap (λ (z : List ℕ). 32 ∷ z) (sym (append_assoc (decimal n) (spaced s.words) (drop end line)));
    })

-- the line says these numbers
pub several_says : {p : KindSet} (depth level : ℕ) (kind : ParamKind) (rules : List Field) (line : List ℕ) (end stop : ℕ) (old new tail : List ℕ) → set_of_kind (Parameter kind) ≡ p → 1 ≤ level → level ≤ MAX_DEPTH → level < 10 → level ≤ depth → length line ≤ LONGEST_LINE → line ≡ (48 + level) ∷ 32 ∷ drop 2 line → drop 2 line ≡ name_of (Parameter kind) ++ drop end line
    → map field_rule rules ≡ fields_of (Parameter kind) → tail_of (Parameter kind) ≡ Absent → old ≡ [] → AreSpaced (forms_of (map field_rule rules)) line end stop old new → stop ≡ length line → tail ≡ [] → SaysAt p depth line level (parameter_line kind new tail)
unfolding number_forms
several_says {p} depth level kind rules line end stop old new tail own least deep one within short starts named fields absent none s last bare =
    let forms : forms_of (map field_rule rules) ≡ number_forms (Parameter kind) = ap (λ (r : List FieldRule). forms_of r) fields in
    let is : new ≡ s.numbers = s.added ∙ ap (λ (z : List ℕ). z ++ s.numbers) none in
    let all : AreAllNumbers kind s.words s.numbers = record {
      in_form = subst (λ (fs : List NumberForm). AreInForm fs s.numbers) forms s.in_form;
      are = subst (λ (fs : List NumberForm). AreNumberTexts fs s.numbers s.words) forms s.are;
      no_tail = absent;
    } in
    let over : drop stop line ≡ [] = ap (λ (i : ℕ). drop i line) last ∙ drop_all (length line) line (omega arith) in
    let rest : drop end line ≡ spaced s.words = s.text ∙ ap (λ (z : List ℕ). spaced s.words ++ z) over ∙ append-nil (spaced s.words) in
    let whole : 32 ∷ drop 2 line ≡ spaced (name_of (Parameter kind) ∷ s.words) = ap (λ (z : List ℕ). 32 ∷ z) (named ∙ ap (λ (z : List ℕ). name_of (Parameter kind) ++ z) rest) in
    let said = (says level kind s.words s.numbers line own least deep one short all starts whole).0 in
    subst (λ (z : List ℕ). SaysAt p depth line level (parameter_line kind new z)) (sym bare) (subst (λ (z : List ℕ). SaysAt p depth line level (parameter_line kind z [])) (sym is) (said, within))
