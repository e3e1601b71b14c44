-- What the words of a line say.
use Rattle.std.proofs.Common.{◌≡◌, ℕ, zero, suc, ◌+◌, ◌^◌, ◌<◌, ◌≤◌, inr, min, List, [], ◌∷◌, length, Option, Some, None, Err, refl, sym, ap, subst, ◌∙◌, arith, decimal}
use Rattle.std.specs.Prelude.{IfSome}
use Rattle.std.proofs.lemmas.List.{length-map}
use Rattle.llrp_schema.specs.declared.kinds.KindSet.{KindSet}
use Rattle.llrp_schema.specs.declared.kinds.MsgKind.{MsgKind}
use Rattle.llrp_schema.specs.declared.kinds.ParamKind.{ParamKind}
use Rattle.llrp_schema.specs.declared.kinds.Kind.{Kind}
use Rattle.llrp_schema.specs.declared.kinds.Kind.TheVariants.{Message, Parameter}
use Rattle.llrp_schema.specs.Schema.{name_of, fields_of, plain_fields_of, set_of_kind}
use Rattle.llrp_schema.specs.Calls.Schema.{message_named_in, param_named_in}
use Rattle.llrp_schema.proofs.TableLaws.{message_name_found, param_name_found, few_plain_fields, name_begins}
use Rattle.llrp_tree.specs.declared.TheConstants.{MAX_DEPTH}
use Rattle.llrp_listing.specs.declared.outcome.Refusal.TheVariants as refusal
use Rattle.llrp_listing.specs.LineChecks.{word, IsOpenLevel, HasLevel, IsName, IsNamed}
use Rattle.llrp_listing.specs.Private.LineReading.{IsLevel, IsKindNamed, ReadsStart, forms_of}
use Rattle.llrp_listing.specs.NodeLine.{number_forms, field_form}
use Rattle.llrp_listing.specs.Private.Numeral.{numeral}
use Rattle.llrp_listing.specs.Lines.{words}
use Rattle.llrp_listing.proofs.DecimalWords.{numeral_is, no_text, same_number, one_number}

-- ---- names

pub message_named : {p : KindSet} (name : List ℕ) (kind : MsgKind) → Some kind ≡ message_named_in p name → IsName p name (Message kind)
message_named {p} name kind e = let found = (message_name_found p name kind).0 (sym e) in (found.0, sym found.1)

pub parameter_named : {p : KindSet} (name : List ℕ) (kind : ParamKind) → Some kind ≡ param_named_in p name → IsName p name (Parameter kind)
parameter_named {p} name kind e = let found = (param_name_found p name kind).0 (sym e) in (found.0, sym found.1)

pub no_message : {p : KindSet} (level : ℕ) (name : List ℕ) → level ≡ 0 → None ≡ message_named_in p name → (kind : Kind) → IsOpenLevel level kind → IsName p name kind → ⊥
no_message {p} level name top none (Message kind) placed named = let t : ◌≡◌ {A = Option MsgKind} None (Some kind) = none ∙ (message_name_found p name kind).1 (named.0, sym named.1) in cc
no_message level name top none (Parameter kind) placed named = absurd (omega arith)

pub no_parameter : {p : KindSet} (level : ℕ) (name : List ℕ) → 1 ≤ level → None ≡ param_named_in p name → (kind : Kind) → IsOpenLevel level kind → IsName p name kind → ⊥
no_parameter level name some none (Message kind) placed named = absurd (omega arith)
no_parameter {p} level name some none (Parameter kind) placed named = let t : ◌≡◌ {A = Option ParamKind} None (Some kind) = none ∙ (param_name_found p name kind).1 (named.0, sym named.1) in cc

-- a parameter that a name has is of the set that is asked
pub found_there : (p : KindSet) (name : List ℕ) (found : Option ParamKind) → found ≡ param_named_in p name → IfSome found (λ kind. set_of_kind (Parameter kind) ≡ p)
found_there p name None e = tt
found_there p name (Some kind) e = (parameter_named {p = p} name kind e).0

-- ---- levels

deepest : (n : ℕ) → n ≤ MAX_DEPTH → n < 10 ^ 20
deepest n le = omega arith

pub no_level : (depth : ℕ) (w : List ℕ) → numeral w ≡ None → IsLevel depth w None
no_level depth w none = λ level e deep within. no_text w none level (deepest level deep) e

pub other_level : (depth : ℕ) (w : List ℕ) (n : ℕ) → numeral w ≡ Some n → min depth MAX_DEPTH < n → IsLevel depth w None
other_level depth w n is lt = λ level e deep within. (let same : n ≡ level = same_number w n level is (deepest level deep) e in absurd (omega arith))

pub level_is : (depth : ℕ) (w : List ℕ) (n : ℕ) → numeral w ≡ Some n → n ≤ min depth MAX_DEPTH → IsLevel depth w (Some n)
level_is depth w n is le = ((numeral_is w n is).text, omega arith, omega arith)

-- ---- counts

pub few_forms : (kind : Kind) → length (forms_of (fields_of kind)) ≤ 12
few_forms kind = omega (arith, length-map (plain_fields_of kind) field_form, few_plain_fields kind)

pub message_forms : (kind : MsgKind) → length (number_forms (Message kind)) ≡ 2 + length (forms_of (fields_of (Message kind)))
unfolding number_forms
message_forms kind = omega arith

pub parameter_forms : (kind : ParamKind) → length (number_forms (Parameter kind)) ≡ length (forms_of (fields_of (Parameter kind)))
unfolding number_forms
parameter_forms kind = refl

-- ---- the start of a line

no_name : (kind : Kind) → [] ≡ name_of kind → ⊥
no_name kind e = let b = name_begins kind in absurd (omega (arith, ap length (e ∙ b.2)))

-- the name after a level
pub placed_name : {p : KindSet} (level : ℕ) (w name : List ℕ) (ws : List (List ℕ)) (kind : Kind) → w ≡ decimal level → level ≤ MAX_DEPTH → IsNamed p (w ∷ name ∷ ws) kind → IsOpenLevel level kind × IsName p name kind
placed_name level w name ws (Message kind) e deep named = (one_number level 0 (deepest level deep) (omega arith) (sym e ∙ named.0), named.1)
placed_name level w name ws (Parameter kind) e deep named = (some level (λ z. named.0 (e ∙ ap decimal z)), named.1)
  where
    some : (level : ℕ) → (level ≡ 0 → ⊥) → 1 ≤ level
    some zero other = absurd (other refl)
    some (suc level) other = omega arith

pub named_name : {p : KindSet} (level : ℕ) (w name : List ℕ) (ws : List (List ℕ)) (kind : Kind) → w ≡ decimal level → level ≤ MAX_DEPTH → IsOpenLevel level kind → IsName p name kind → IsNamed p (w ∷ name ∷ ws) kind
named_name level w name ws (Message kind) e deep placed named = (e ∙ ap decimal placed, named)
named_name level w name ws (Parameter kind) e deep placed named = (λ z. (let t : level ≡ 0 = one_number level 0 (deepest level deep) (omega arith) (sym e ∙ z) in absurd (omega arith)), named)

has_level : (depth level : ℕ) (bytes w : List ℕ) (ws : List (List ℕ)) → words bytes ≡ w ∷ ws → IsLevel depth w (Some level) → HasLevel depth (words bytes)
has_level depth level bytes w ws e is = (level, ap (λ (z : List (List ℕ)). word z 0) e ∙ is.0, is.1, is.2)

pub start_no_word : {p : KindSet} (depth level : ℕ) (bytes w : List ℕ) → words bytes ≡ w ∷ [] → IsLevel depth w (Some level) → ReadsStart p depth bytes (Err refusal.Name)
start_no_word {p} depth level bytes w e is = inr (has_level depth level bytes w [] e is, λ has. nameless has.0 (subst (λ (z : List (List ℕ)). IsNamed p z has.0) e has.1), refl)
  where
    nameless : (kind : Kind) → IsNamed p (w ∷ []) kind → ⊥
    nameless (Message kind) named = no_name (Message kind) named.1.1
    nameless (Parameter kind) named = no_name (Parameter kind) named.1.1

pub start_no_kind : {p : KindSet} (depth level : ℕ) (bytes w name : List ℕ) (ws : List (List ℕ)) → words bytes ≡ w ∷ name ∷ ws → IsLevel depth w (Some level) → IsKindNamed p level name None → ReadsStart p depth bytes (Err refusal.Name)
start_no_kind {p} depth level bytes w name ws e is none =
    inr (has_level depth level bytes w (name ∷ ws) e is, λ has. (let q = placed_name level w name ws has.0 is.0 is.1 (subst (λ (z : List (List ℕ)). IsNamed p z has.0) e has.1) in none has.0 q.0 q.1), refl)
