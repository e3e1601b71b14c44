-- The objects of parameters that are there as trees.
use Rattle.std.proofs.Common.{◌≡◌, ℕ, zero, suc, ◌+◌, ◌-◌, ◌^◌, ◌<◌, ◌≤◌, Bool, true, false, not, List, [], ◌∷◌, ◌++◌, length, take, drop, get_or, map, cond, refl, sym, ap, subst, ◌∙◌, arith, append_assoc}
use Rattle.std.specs.Prelude.{codes, filter}
use Rattle.std.specs.List.{All, AllByRecursion, join_with_byte, list_all}
use Rattle.std.proofs.lemmas.List.{append-nil, take_all}
use Rattle.llrp_schema.specs.declared.kinds.Field.{Field}
use Rattle.llrp_schema.specs.Calls.Schema.{field_rule}
use Rattle.llrp_schema.specs.declared.kinds.Kind.{Kind}
use Rattle.llrp_schema.specs.declared.kinds.Kind.TheVariants.{Parameter}
use Rattle.llrp_schema.specs.declared.kinds.ParamKind.{ParamKind}
use Rattle.llrp_schema.specs.declared.kinds.Tail.{Tail}
use Rattle.llrp_schema.specs.Schema.{FieldRule, fields_of, name_of, plain_fields_of, tail_of}
use Rattle.llrp_schema.proofs.TableLaws.{field_values, signed_fields}
use Rattle.llrp_tree.specs.Tree.{Forest, none, and, Tree, add, forest, trees}
use Rattle.llrp_tree.specs.Lawful.{AreInRange, levels}
use Rattle.llrp_tree.proofs.SpelledLemmas.{levels_of_first, levels_of_others}
use Rattle.llrp_tree.proofs.TreeLemmas.{forest-trees, forest-take_more}
use Rattle.llrp_listing.specs.NodeLine.{field_form}
use Rattle.tag_uri.proofs.UriLemmas.{left, right}
use Rattle.llrp_json.specs.JsonValues.{member, object, string}
use Rattle.llrp_json.specs.JsonItems.{AreFields, AreParameters, IsValue, field_name, more_members, parameters_members, tail_members}
use Rattle.llrp_json.specs.Calls.OpenJson.{before_one_more, is_parent, listed, tail_begun, tail_end}
use Rattle.llrp_json.specs.Private.Nodes.{AreOwnMembers, IsObject, IsPrintable, kind_member, plain}
use Rattle.llrp_json.specs.Private.OpenJson.{at_end, more_of}
use Rattle.llrp_json.proofs.NodeTexts.{end_text, listed_more, members_append, more_octets, object_first, tail_text}
use Rattle.llrp_json.proofs.PlainNames.{fields_plain, is_named}

-- ---- fields

-- the value of the member that names a kind
abbrev kind_text : ParamKind → List ℕ
kind_text k = string (name_of (Parameter k))

abbrev IsFitting : FieldRule → Type 0
IsFitting rule = rule.greatest < 2 ^ rule.width

abbrev IsSigned : FieldRule → Type 0
IsSigned rule = rule.signed ≡ true → (rule.reserved ≡ false) × (rule.width ≡ 8) × (rule.greatest ≡ 255)

each_printable : (rules : List FieldRule) → All IsFitting rules → All IsSigned rules → list_all is_named rules ≡ true → AllByRecursion IsPrintable rules
each_printable [] f s n = tt
each_printable (r ∷ rules) f s n = (
  record { fits = f 0 r (omega arith); signed = λ e. (s 0 r (omega arith) e).1; named = left (is_named r) (list_all is_named rules) n },
  each_printable rules (λ i d h. f (suc i) d (omega (arith, h))) (λ i d h. s (suc i) d (omega (arith, h))) (right (is_named r) (list_all is_named rules) n),
)

-- the fields of a kind are so
pub kind_printable : (kind : Kind) → AllByRecursion IsPrintable (fields_of kind)
kind_printable kind = each_printable (fields_of kind) (field_values kind) (signed_fields kind) (fields_plain kind)

module _ (r : FieldRule) (rest all : List FieldRule) (is : all ≡ r ∷ rest) where
  pub first_printable : AllByRecursion IsPrintable all → IsPrintable r
  first_printable p = (subst (AllByRecursion IsPrintable) is p).0

  pub rest_printable : AllByRecursion IsPrintable all → AllByRecursion IsPrintable rest
  rest_printable p = (subst (AllByRecursion IsPrintable) is p).1

  pub reserved_out : r.reserved ≡ true → plain all ≡ plain rest
  reserved_out e = ap plain is ∙ ap (λ (b : Bool). cond (not b) (r ∷ plain rest) (plain rest)) e

  pub plain_in : r.reserved ≡ false → plain all ≡ r ∷ plain rest
  plain_in e = ap plain is ∙ ap (λ (b : Bool). cond (not b) (r ∷ plain rest) (plain rest)) e

-- a slice with something in it, by its first
pub rules_first : (rules : List Field) (d : Field) → 1 ≤ length rules → map field_rule rules ≡ field_rule (get_or rules 0 d) ∷ map field_rule (take (length rules - 1) (drop 1 rules))
rules_first [] d some = absurd (omega arith)
rules_first (rule ∷ rules) d some = (let rest : take (length (rule ∷ rules) - 1) rules ≡ rules = take_all (length (rule ∷ rules) - 1) rules (omega arith) in rw rest refl)

pub values_first : (values : List ℕ) (d : ℕ) → 1 ≤ length values → values ≡ get_or values 0 d ∷ take (length values - 1) (drop 1 values)
values_first [] d some = absurd (omega arith)
values_first (v ∷ values) d some = (let rest : take (length (v ∷ values) - 1) values ≡ values = take_all (length (v ∷ values) - 1) values (omega arith) in rw rest refl)

-- no fields have no members
pub no_fields : (all : List FieldRule) (values old : List ℕ) → all ≡ [] → AreInRange (plain all) values → (members : List (List ℕ)) × AreFields (plain all) values members × (old ≡ old ++ more_members members)
no_fields all [] old e h = ([], subst (λ (x : List FieldRule). AreFields (plain x) [] []) (sym e) tt, sym (append-nil old))
no_fields all (v ∷ values) old e h = absurd (subst (λ (x : List FieldRule). AreInRange (plain x) (v ∷ values)) e h)

-- a field that is reserved has none
pub reserved_left : (all rest : List FieldRule) (values old new : List ℕ) → plain all ≡ plain rest → (members : List (List ℕ)) × AreFields (plain rest) values members × (new ≡ old ++ more_members members)
    → (members : List (List ℕ)) × AreFields (plain all) values members × (new ≡ old ++ more_members members)
reserved_left all rest values old new e w = (w.0, subst (λ (x : List FieldRule). AreFields x values w.0) (sym e) w.1, w.2)

-- one that is not has a value
pub valued : (all rest : List FieldRule) (r : FieldRule) (values : List ℕ) → plain all ≡ r ∷ plain rest → AreInRange (plain all) values → 1 ≤ length values
valued all rest r [] e h = absurd (subst (λ (x : List FieldRule). AreInRange x []) e h)
valued all rest r (v ∷ values) e h = omega arith

module _ (all rest : List FieldRule) (r : FieldRule) (v : ℕ) (values later : List ℕ) (e : plain all ≡ r ∷ plain rest) (are : values ≡ v ∷ later) where
  in_range : AreInRange (plain all) values → AreInRange (r ∷ plain rest) (v ∷ later)
  in_range h = subst (λ (x : List FieldRule). AreInRange x (v ∷ later)) e (subst (AreInRange (plain all)) are h)

  pub value_fits : AreInRange (plain all) values → IsPrintable r → v < 2 ^ r.width
  value_fits h p = (let within = (in_range h).0 in let fits = p.fits in omega (arith, within, fits))

  pub later_in_range : AreInRange (plain all) values → AreInRange (plain rest) later
  later_in_range h = (in_range h).1

  pub field_added : (value old mid new : List ℕ) → IsValue (field_form r) v value → mid ≡ old ++ (44 ∷ member (field_name r) value)
      → (members : List (List ℕ)) × AreFields (plain rest) later members × (new ≡ mid ++ more_members members)
      → (members : List (List ℕ)) × AreFields (plain all) values members × (new ≡ old ++ more_members members)
  field_added value old mid new i f w =
      let m : List ℕ = member (field_name r) value in (
        m ∷ w.0,
        subst (λ (x : List FieldRule). AreFields x values (m ∷ w.0)) (sym e) (subst (λ (x : List ℕ). AreFields (r ∷ plain rest) x (m ∷ w.0)) (sym are) ((value, i, refl), w.1)),
        w.2 ∙ ap (λ (x : List ℕ). x ++ more_members w.0) f ∙ append_assoc old (44 ∷ m) (more_members w.0),
      )

-- ---- a tail

pub tail_added : (form : Tail) (octets old t1 t2 t3 : List ℕ) → t1 ≡ old ++ tail_begun form [] → t2 ≡ t1 ++ more_of form false octets → t3 ≡ t2 ++ tail_end form → t3 ≡ old ++ more_members (tail_members form octets)
tail_added form octets old t1 t2 t3 e f g =
    let begun : tail_begun form octets ≡ tail_begun form [] ++ more_of form false octets = more_octets form [] octets false (λ words. ((0, refl), refl)) in
    g ∙ ap (λ (x : List ℕ). x ++ tail_end form) (f ∙ ap (λ (x : List ℕ). x ++ more_of form false octets) e ∙ append_assoc old (tail_begun form []) (more_of form false octets) ∙ ap (λ (x : List ℕ). old ++ x) (sym begun))
    ∙ append_assoc old (tail_begun form octets) (tail_end form) ∙ ap (λ (x : List ℕ). old ++ x) (sym (tail_text form octets))

-- ---- a parameter

-- what comes before its parameters
pub own_added : (t : Tree) (k : ParamKind) (rules : List FieldRule) (fields tail : List ℕ) (form : Tail) (old t1 t2 t3 : List ℕ) → k ≡ t.kind → rules ≡ fields_of (Parameter t.kind) → fields ≡ t.fields → form ≡ tail_of (Parameter t.kind) → tail ≡ t.tail
    → t1 ≡ old ++ (123 ∷ member (codes "parameter") (kind_text k)) → (members : List (List ℕ)) × AreFields (plain rules) fields members × (t2 ≡ t1 ++ more_members members) → t3 ≡ t2 ++ more_members (tail_members form tail)
    → (own : List (List ℕ)) × AreOwnMembers t own × (t3 ≡ old ++ ((123 ∷ kind_member t) ++ more_members own))
own_added t k rules fields tail form old t1 t2 t3 ek er ev ef et a w c =
    let end : List (List ℕ) = tail_members (tail_of (Parameter t.kind)) t.tail in
    let start : List ℕ = 123 ∷ kind_member t in
    let are : AreFields (plain_fields_of (Parameter t.kind)) t.fields w.0 = subst (λ (x : List ℕ). AreFields (plain_fields_of (Parameter t.kind)) x w.0) ev (subst (λ (x : List FieldRule). AreFields (plain x) fields w.0) er w.1) in
    let first : t1 ≡ old ++ start = a ∙ ap (λ (x : ParamKind). old ++ (123 ∷ member (codes "parameter") (kind_text x))) ek in
    let last : t3 ≡ t2 ++ more_members end = c ∙ ap (λ (x : Tail). t2 ++ more_members (tail_members x tail)) ef ∙ ap (λ (x : List ℕ). t2 ++ more_members (tail_members (tail_of (Parameter t.kind)) x)) et in (
      w.0 ++ end,
      (w.0, are, refl),
      last ∙ ap (λ (x : List ℕ). x ++ more_members end) (w.2 ∙ ap (λ (x : List ℕ). x ++ more_members w.0) first) ∙ append_assoc (old ++ start) (more_members w.0) (more_members end) ∙ append_assoc old start (more_members w.0 ++ more_members end)
          ∙ ap (λ (x : List ℕ). old ++ (start ++ x)) (sym (members_append w.0 end)),
    )

-- its object
pub object_added : (t : Tree) (cs : List Tree) (parent : Bool) (old t1 t2 t3 : List ℕ) → cs ≡ trees t.children → parent ≡ is_parent (forest cs)
    → (own : List (List ℕ)) × AreOwnMembers t own × (t1 ≡ old ++ ((123 ∷ kind_member t) ++ more_members own)) → (texts : List (List ℕ)) × AreParameters (forest cs) texts × (t2 ≡ t1 ++ listed texts) → t3 ≡ t2 ++ at_end parent
    → (object : List ℕ) × IsObject t object × (t3 ≡ old ++ object)
object_added t cs parent old t1 t2 t3 ec ep w b c =
    let start : List ℕ = 123 ∷ kind_member t in
    let end : List (List ℕ) = tail_members (tail_of (Parameter t.kind)) t.tail in
    let row : forest cs ≡ t.children = ap forest ec ∙ forest-trees t.children in
    let below : AreParameters t.children b.0 = subst (λ (f : Forest). AreParameters f b.0) row b.1 in
    let later : List (List ℕ) = parameters_members b.0 in
    let closed : listed b.0 ++ at_end parent ≡ more_members later ++ 125 ∷ [] = ap (λ (x : Bool). listed b.0 ++ at_end x) (ep ∙ ap is_parent row) ∙ sym (end_text t.children b.0 below) in
    let fields : List (List ℕ) = w.1.0 in
    let own_is : w.0 ≡ fields ++ end = w.1.2 in
    let joined : more_members w.0 ++ more_members later ≡ more_members (fields ++ (end ++ later)) =
    sym (members_append w.0 later) ∙ ap more_members (ap (λ (x : List (List ℕ)). x ++ later) own_is ∙ append_assoc fields end later) in
    let whole : (start ++ more_members w.0) ++ (more_members later ++ 125 ∷ []) ≡ object (kind_member t ∷ (fields ++ (end ++ later))) =
    append_assoc start (more_members w.0) (more_members later ++ 125 ∷ []) ∙ ap (λ (x : List ℕ). start ++ x) (sym (append_assoc (more_members w.0) (more_members later) (125 ∷ [])) ∙ ap (λ (x : List ℕ). x ++ 125 ∷ []) joined)
    ∙ sym (object_first (kind_member t) (fields ++ (end ++ later))) in (
      object (kind_member t ∷ (fields ++ (end ++ later))),
      (fields, b.0, w.1.1, below, refl),
      c ∙ ap (λ (x : List ℕ). x ++ at_end parent) (b.2 ∙ ap (λ (x : List ℕ). x ++ listed b.0) w.2) ∙ append_assoc (old ++ (start ++ more_members w.0)) (listed b.0) (at_end parent)
          ∙ ap (λ (x : List ℕ). (old ++ (start ++ more_members w.0)) ++ x) closed ∙ append_assoc old (start ++ more_members w.0) (more_members later ++ 125 ∷ []) ∙ ap (λ (x : List ℕ). old ++ x) whole,
    )

-- ---- parameters in a row

pub levels_at : (ts : List Tree) (i : ℕ) (d t : Tree) → i < length ts → t ≡ get_or ts i d → levels t.children + 1 ≤ levels (forest ts)
levels_at [] i d t within is = absurd (omega arith)
levels_at (u ∷ ts) zero d t within is = (let same : levels t.children ≡ levels u.children = ap (λ (x : Tree). levels x.children) is in let l = levels_of_first u ts in omega arith)
levels_at (u ∷ ts) (suc i) d t within is = (let m = levels_at ts i d t (omega arith) is in let l = levels_of_others u ts in omega arith)

pub levels_below : (cs : List Tree) (f : Forest) → cs ≡ trees f → levels (forest cs) ≡ levels f
levels_below cs f e = ap levels (ap forest e ∙ forest-trees f)

pub none_listed : (ts : List Tree) (old : List ℕ) → ts ≡ [] → (texts : List (List ℕ)) × AreParameters (forest ts) texts × (old ≡ old ++ listed texts)
none_listed ts old e = ([], subst (λ (x : List Tree). AreParameters (forest x) []) (sym e) refl, sym (append-nil old))

pub one_listed : (ts : List Tree) (i : ℕ) (t : Tree) (old t1 t2 t3 : List ℕ) (parent : Bool) → i < length ts → t ≡ get_or ts i t → parent ≡ is_parent (forest (take i ts))
    → (texts : List (List ℕ)) × AreParameters (forest (take i ts)) texts × (t1 ≡ old ++ listed texts) → t2 ≡ t1 ++ before_one_more parent → (object : List ℕ) × IsObject t object × (t3 ≡ t2 ++ object)
    → (texts : List (List ℕ)) × AreParameters (forest (take (i + 1) ts)) texts × (t3 ≡ old ++ listed texts)
one_listed ts i t old t1 t2 t3 parent within is known w s o =
    let before : Forest = forest (take i ts) in
    let more : forest (take (i + 1) ts) ≡ add before t = forest-take_more ts i t within is in
    let texts : List (List ℕ) = w.0 ++ o.0 ∷ [] in
    let are : AreParameters (add before t) texts = (w.0, o.1.0, o.1.1, w.1, o.1.2, o.1.3, ap (λ (x : List ℕ). w.0 ++ x ∷ []) o.1.4) in (
      texts,
      subst (λ (f : Forest). AreParameters f texts) (sym more) are,
      o.2 ∙ ap (λ (x : List ℕ). x ++ o.0) (s ∙ ap (λ (x : List ℕ). x ++ before_one_more parent) w.2 ∙ append_assoc old (listed w.0) (before_one_more parent)) ∙ append_assoc old (listed w.0 ++ before_one_more parent) o.0
          ∙ ap (λ (x : List ℕ). old ++ x) (append_assoc (listed w.0) (before_one_more parent) o.0 ∙ ap (λ (b : Bool). listed w.0 ++ (before_one_more b ++ o.0)) known ∙ sym (listed_more before w.0 o.0 w.1)),
    )

-- some are before one that is there
pub is_parent_after : (ts : List Tree) (i : ℕ) (t : Tree) → i < length ts → t ≡ get_or ts i t → true ≡ is_parent (forest (take (i + 1) ts))
is_parent_after ts i t within is = sym (ap is_parent (forest-take_more ts i t within is))

-- ---- the member of parameters

member_begun : (x : List ℕ) (xs : List (List ℕ)) → listed (x ∷ xs) ++ 93 ∷ [] ≡ more_members (parameters_members (x ∷ xs))
member_begun x xs =
    let all : List ℕ = join_with_byte 44 (x ∷ xs) in
    append_assoc (codes ",\"parameters\":[") all (93 ∷ []) ∙ sym (append-nil (codes ",\"parameters\":[" ++ (all ++ 93 ∷ [])))

member_of : (texts earlier : List (List ℕ)) (last : List ℕ) → texts ≡ earlier ++ last ∷ [] → listed texts ++ 93 ∷ [] ≡ more_members (parameters_members texts)
member_of texts [] last e = subst (λ (x : List (List ℕ)). listed x ++ 93 ∷ [] ≡ more_members (parameters_members x)) (sym e) (member_begun last [])
member_of texts (x ∷ xs) last e = subst (λ (y : List (List ℕ)). listed y ++ 93 ∷ [] ≡ more_members (parameters_members y)) (sym e) (member_begun x (xs ++ last ∷ []))

member_text : (f : Forest) (texts : List (List ℕ)) → AreParameters f texts → true ≡ is_parent f → listed texts ++ 93 ∷ [] ≡ more_members (parameters_members texts)
member_text none texts a e = absurd cc
member_text (and before kind fields tail children) texts a e = member_of texts a.0 _ a.6

pub member_ended : (f : Forest) (old t1 t2 : List ℕ) → true ≡ is_parent f → (texts : List (List ℕ)) × AreParameters f texts × (t1 ≡ old ++ listed texts) → t2 ≡ t1 ++ 93 ∷ []
    → (texts : List (List ℕ)) × AreParameters f texts × (t2 ≡ old ++ more_members (parameters_members texts))
member_ended f old t1 t2 some w e = (w.0, w.1, e ∙ ap (λ (x : List ℕ). x ++ 93 ∷ []) w.2 ∙ append_assoc old (listed w.0) (93 ∷ []) ∙ ap (λ (x : List ℕ). old ++ x) (member_text f w.0 w.1 some))

pub no_member : (f : Forest) (old t1 : List ℕ) → false ≡ is_parent f → (texts : List (List ℕ)) × AreParameters f texts × (t1 ≡ old ++ listed texts) → (texts : List (List ℕ)) × AreParameters f texts × (t1 ≡ old ++ more_members (parameters_members texts))
no_member none old t1 e w = (w.0, w.1, w.2 ∙ ap (λ (x : List (List ℕ)). old ++ listed x) w.1 ∙ sym (ap (λ (x : List (List ℕ)). old ++ more_members (parameters_members x)) w.1))
no_member (and before kind fields tail children) old t1 e w = absurd cc
