-- The objects of a lawful message and of its parameters as values: their texts, and what they say.
use Rattle.std.proofs.Common.{◌≡◌, inl, inr, ℕ, zero, suc, ◌*◌, ◌≤◌, List, [], ◌∷◌, ◌++◌, map, None, refl, sym, ap, ap₂, ◌∙◌, subst, arith, append_assoc, append-nil}
use Rattle.std.specs.Prelude.{codes, option_and_then, unwrap_or}
use Rattle.std.specs.List.{AllByRecursion, AllZip}
use Rattle.json.specs.Find.{as_array, as_str, get}
use Rattle.json.specs.Json.{Json, string, array, object, Items, no_items, item}
use Rattle.json.specs.Tree.{items_depth, members_depth, ItemsHaveNumbers, MembersHaveNumbers}
use Rattle.llrp_schema.specs.declared.kinds.Kind.{Kind}
use Rattle.llrp_schema.specs.declared.kinds.Kind.TheVariants.{Message, Parameter}
use Rattle.llrp_schema.specs.declared.kinds.KindSet.{KindSet}
use Rattle.llrp_schema.specs.declared.kinds.ParamKind.{ParamKind}
use Rattle.llrp_schema.specs.declared.kinds.Tail.{Tail}
use Rattle.llrp_schema.specs.declared.kinds.Tail.TheVariants.{Absent, Words, Text, Bits, Data}
use Rattle.llrp_schema.specs.Schema.{FieldRule, groups_of, name_of, plain_fields_of, set_of_kind, tail_of}
use Rattle.llrp_schema.proofs.PlaceLemmas.{child_set}
use Rattle.llrp_tree.specs.Lawful.{AllLawful, ArePlaced, Obeys, levels}
use Rattle.llrp_tree.specs.Tree.{Forest, none, and, Tree, trees}
use Rattle.llrp_json.specs.Calls.JsonLaws.{first_names, member_names, tail_names}
use Rattle.llrp_json.specs.JsonItems.{AreFields, AreParameters, field_name, parameters_members, tail_members}
use Rattle.llrp_json.specs.JsonValues as written
use Rattle.llrp_json.proofs.MemberNames.{names_are_apart}
use Rattle.llrp_json_read.specs.MemberRules.{field_member, first_rules, member_rules, parameters_rule, tail_rules}
use Rattle.llrp_json_read.specs.ObjectMembers.{MemberRule}
use Rattle.llrp_json_read.specs.ObjectSays.{SaysEach, SaysParameter, SaysParts, below, kind_member}
use Rattle.llrp_json_read.proofs.FilledObjects.{Apart, Away, Fill, IsIn, Pair, apart_from, as_members, get_in, get_none, names, no_fault, rule_names, still_apart}
use Rattle.llrp_json_read.proofs.PrintedFields.{IsFine, IsFinePair, Matches, ascii_name, field_pairs, kind_ascii, kind_fields, tail_is_pairs, tail_pairs}
use Rattle.llrp_json_read.proofs.PrintedUtf8.{ItemsHaveTexts, MembersHaveTexts}
use Rattle.llrp_json_read.proofs.ReadableFields.{all_readable}
use Rattle.llrp_json_read.proofs.ValueTexts.{text_of, items_texts, members_texts}

-- ---- lists

all_append : {A : Type 0} (P : A → Type 0) (xs ys : List A) → AllByRecursion P xs → AllByRecursion P ys → AllByRecursion P (xs ++ ys)
all_append P [] ys p q = q
all_append P (x ∷ xs) ys p q = (p.0, all_append P xs ys p.1 q)

all_weaker : {A : Type 0} (P Q : A → Type 0) → ((x : A) → P x → Q x) → (xs : List A) → AllByRecursion P xs → AllByRecursion Q xs
all_weaker P Q f [] p = tt
all_weaker P Q f (x ∷ xs) p = (f x p.0, all_weaker P Q f xs p.1)

zip_append : (rs qs : List MemberRule) (ps ms : List Pair) → AllZip Matches rs ps → AllZip Matches qs ms → AllZip Matches (rs ++ qs) (ps ++ ms)
zip_append [] qs [] ms z y = y
zip_append [] qs (p ∷ ps) ms z y = absurd z
zip_append (r ∷ rs) qs [] ms z y = absurd z
zip_append (r ∷ rs) qs (p ∷ ps) ms z y = (z.0, zip_append rs qs ps ms z.1 y)

in_middle : (xs : List Pair) (p : Pair) (ys : List Pair) → IsIn p (xs ++ p ∷ ys)
in_middle [] p ys = inl refl
in_middle (x ∷ xs) p ys = inr (in_middle xs p ys)

-- each of some pairs is one of all
all_in : (all xs ps ys : List Pair) → all ≡ xs ++ (ps ++ ys) → AllByRecursion (λ p. IsIn p all) ps
all_in all xs [] ys e = tt
all_in all xs (p ∷ ps) ys e =
    (subst (IsIn p) (sym e) (in_middle xs p (ps ++ ys)), all_in all (xs ++ p ∷ []) ps ys (e ∙ sym (append_assoc xs (p ∷ []) (ps ++ ys))))

members_append : (ps qs : List Pair) → members_texts (as_members (ps ++ qs)) ≡ members_texts (as_members ps) ++ members_texts (as_members qs)
members_append [] qs = refl
members_append (p ∷ ps) qs = ap (λ l. written.member p.0 (text_of p.1) ∷ l) (members_append ps qs)

-- ---- names

names_append : (rs qs : List MemberRule) → rule_names (rs ++ qs) ≡ rule_names rs ++ rule_names qs
names_append [] qs = refl
names_append (r ∷ rs) qs = ap (λ l. r.name ∷ l) (names_append rs qs)

field_names : (fs : List FieldRule) → rule_names (map field_member fs) ≡ map field_name fs
field_names [] = refl
field_names (f ∷ fs) = ap (λ l. field_name f ∷ l) (field_names fs)

first_are : (kind : Kind) → rule_names (first_rules kind) ≡ first_names kind
first_are (Message kind) = refl
first_are (Parameter kind) = refl

tail_are : (form : Tail) → rule_names (tail_rules form) ≡ tail_names form
tail_are Absent = refl
tail_are Words = refl
tail_are Text = refl
tail_are Bits = refl
tail_are Data = refl

-- the rules of the members that a kind's object always has
abbrev front_rules : Kind → List MemberRule
front_rules kind = first_rules kind ++ (map field_member (plain_fields_of kind) ++ tail_rules (tail_of kind))

rules_split : (kind : Kind) → member_rules kind ≡ front_rules kind ++ parameters_rule ∷ []
unfolding member_rules
rules_split kind =
    let fs = map field_member (plain_fields_of kind) in
    let ts = tail_rules (tail_of kind) in
    sym (append_assoc (first_rules kind) (fs ++ ts) (parameters_rule ∷ []) ∙ ap (λ l. first_rules kind ++ l) (append_assoc fs ts (parameters_rule ∷ [])))

rules_named : (kind : Kind) → rule_names (member_rules kind) ≡ member_names kind
unfolding member_rules
rules_named kind =
    let fs = map field_member (plain_fields_of kind) in
    let ts = tail_rules (tail_of kind) in
    names_append (first_rules kind) (fs ++ (ts ++ parameters_rule ∷ []))
    ∙ ap₂ (λ a b. a ++ b) (first_are kind)
    (names_append fs (ts ++ parameters_rule ∷ []) ∙ ap₂ (λ a b. a ++ b) (field_names (plain_fields_of kind)) (names_append ts (parameters_rule ∷ []) ∙ ap (λ l. l ++ codes "parameters" ∷ []) (tail_are (tail_of kind))))

rules_apart : (kind : Kind) → Apart (rule_names (member_rules kind))
rules_apart kind = subst Apart (sym (rules_named kind)) (apart_from (member_names kind) (names_are_apart kind))

away_last : (y : List ℕ) (xs : List (List ℕ)) (x : List ℕ) → Away y (xs ++ x ∷ []) → y ≡ x → ⊥
away_last y [] x a = a.0
away_last y (z ∷ xs) x a = away_last y xs x a.1

-- the last of names that differ is none of those before it
apart_last : (xs : List (List ℕ)) (x : List ℕ) → Apart (xs ++ x ∷ []) → Away x xs
apart_last [] x a = tt
apart_last (y ∷ xs) x a = ((λ e. away_last y xs x a.0 (sym e)), apart_last xs x a.1)

zip_names : (rs : List MemberRule) (ps : List Pair) → AllZip Matches rs ps → names ps ≡ rule_names rs
zip_names [] [] z = refl
zip_names [] (p ∷ ps) z = absurd z
zip_names (r ∷ rs) [] z = absurd z
zip_names (r ∷ rs) (p ∷ ps) z = ap₂ (λ x xs. x ∷ xs) z.0.0 (zip_names rs ps z.1)

-- ---- the parameters below an object

-- values one after another as an array's
abbrev pub items_of : List Json → Items
items_of [] = no_items
items_of (j ∷ js) = item j (items_of js)

items_texts_are : (js : List Json) → items_texts (items_of js) ≡ map text_of js
items_texts_are [] = refl
items_texts_are (j ∷ js) = ap (λ l. text_of j ∷ l) (items_texts_are js)

items_fine : (d : ℕ) (js : List Json) → AllByRecursion (IsFine d) js → ItemsHaveTexts (items_of js) × ItemsHaveNumbers (items_of js) × (items_depth (items_of js) ≤ d)
items_fine d [] h = (tt, tt, omega arith)
items_fine d (j ∷ js) h = let rest = items_fine d js h.1 in ((h.0.0, rest.0), (h.0.1, rest.1), (let a = h.0.2 in let b = rest.2 in omega (arith, a, b)))

members_fine : (d : ℕ) (ps : List Pair) → AllByRecursion (IsFinePair d) ps → MembersHaveTexts (as_members ps) × MembersHaveNumbers (as_members ps) × (members_depth (as_members ps) ≤ d)
members_fine d [] h = (tt, tt, omega arith)
members_fine d (p ∷ ps) h =
    let rest = members_fine d ps h.1 in
    ((h.0.0, h.0.1.0, rest.0), (h.0.1.1, rest.1), (let a = h.0.1.2 in let b = rest.2 in omega (arith, a, b)))

abbrev pub below_pairs : List Json → List Pair
below_pairs [] = []
below_pairs (j ∷ js) = (codes "parameters", array (items_of (j ∷ js))) ∷ []

below_texts : (js : List Json) → members_texts (as_members (below_pairs js)) ≡ parameters_members (map text_of js)
below_texts [] = refl
below_texts (j ∷ js) = ap (λ l. written.member (codes "parameters") (written.array l) ∷ []) (items_texts_are (j ∷ js))

below_fill : (js : List Json) → Fill (parameters_rule ∷ []) (below_pairs js)
below_fill [] = (refl, tt)
below_fill (j ∷ js) = inl (refl, refl, tt)

below_fine : (d : ℕ) (js : List Json) → AllByRecursion (IsFine d) js → AllByRecursion (IsFinePair (suc d)) (below_pairs js)
below_fine d [] h = tt
below_fine d (j ∷ js) h = let all = items_fine d (j ∷ js) h in ((ascii_name (codes "parameters") refl, (all.0, all.1, (let le = all.2 in omega (arith, le)))), tt)

fill_front : (rs qs : List MemberRule) (ps ms : List Pair) → AllZip Matches rs ps → Fill qs ms → Fill (rs ++ qs) (ps ++ ms)
fill_front [] qs [] ms z f = f
fill_front [] qs (p ∷ ps) ms z f = absurd z
fill_front (r ∷ rs) qs [] ms z f = absurd z
fill_front (r ∷ rs) qs (p ∷ ps) ms z f = inl (z.0.0, z.0.1, fill_front rs qs ps ms z.1 f)

-- ---- objects

-- the members of an object: the first ones, those of the fields, that of the tail, and that of the parameters
abbrev pub all_pairs : Kind → List Pair → List Pair → List ℕ → List Json → List Pair
all_pairs kind firsts fields tail js = (firsts ++ (fields ++ tail_pairs (tail_of kind) tail)) ++ below_pairs js

-- what the object with these members is
pub record IsObject (p : KindSet) (kind : Kind) (firsts : List Pair) (values tail : List ℕ) (members : List (List ℕ)) (js : List Json) (all : List Pair) : Type 0 where
  pub parts : SaysParts p kind (object (as_members all)) values tail
  pub apart : Apart (names all)
  pub firsts_in : AllByRecursion (λ q. IsIn q all) firsts
  pub below_is : below (object (as_members all)) ≡ items_of js
  pub texts : members_texts (as_members all) ≡ members_texts (as_members firsts) ++ (members ++ (tail_members (tail_of kind) tail ++ parameters_members (map text_of js)))
  pub fine : (d : ℕ) → AllByRecursion (IsFinePair 0) firsts → AllByRecursion (IsFine d) js → IsFine (suc (suc d)) (object (as_members all))

raised : (c d : ℕ) → c ≤ d → (ps : List Pair) → AllByRecursion (IsFinePair c) ps → AllByRecursion (IsFinePair d) ps
raised c d le ps h = all_weaker (IsFinePair c) (IsFinePair d) (λ p f. (f.0, (f.1.0, f.1.1, (let deep = f.1.2 in omega (arith, le, deep))))) ps h

below_of : (front : List Pair) (js : List Json) → Apart (names (front ++ below_pairs js)) → Away (codes "parameters") (names front) → below (object (as_members (front ++ below_pairs js))) ≡ items_of js
below_of front [] apart away =
    let none : get (codes "parameters") (object (as_members (front ++ []))) ≡ None = get_none (codes "parameters") (front ++ []) (subst (λ l. Away (codes "parameters") (names l)) (sym (append-nil front)) away) in
    ap (λ o. unwrap_or (option_and_then as_array o) no_items) none
below_of front (j ∷ js) apart away =
    let p : Pair = (codes "parameters", array (items_of (j ∷ js))) in
    ap (λ o. unwrap_or (option_and_then as_array o) no_items) (get_in p (front ++ p ∷ []) (in_middle front p []) apart)

pub object_is : (p : KindSet) (kind : Kind) (firsts : List Pair) (values tail : List ℕ) (children : Forest) (members : List (List ℕ)) (a : AreFields (plain_fields_of kind) values members) (js : List Json)
    → set_of_kind kind ≡ p → Obeys kind values tail children → AllZip Matches (first_rules kind) firsts → IsIn (kind_member kind, string (name_of kind)) firsts
    → IsObject p kind firsts values tail members js (all_pairs kind firsts (field_pairs (plain_fields_of kind) values members a) tail js)
object_is p kind firsts values tail children members a js own obeys first_zip named =
    let fields = field_pairs (plain_fields_of kind) values members a in
    let tails = tail_pairs (tail_of kind) tail in
    let front = firsts ++ (fields ++ tails) in
    let all = front ++ below_pairs js in
    let f = kind_fields kind values members a (all_readable kind) obeys.ranges in
    let t = tail_is_pairs (tail_of kind) values tail obeys.bytes obeys.form in
    let zip = zip_append (first_rules kind) (map field_member (plain_fields_of kind) ++ tail_rules (tail_of kind)) firsts (fields ++ tails) first_zip (zip_append (map field_member (plain_fields_of kind)) (tail_rules (tail_of kind)) fields tails f.matched t.matched) in
    let fill : Fill (member_rules kind) all = subst (λ rs. Fill rs all) (sym (rules_split kind)) (fill_front (front_rules kind) (parameters_rule ∷ []) front (below_pairs js) zip (below_fill js)) in
    let apart : Apart (names all) = still_apart (member_rules kind) all fill (rules_apart kind) in
    let rule_split : rule_names (member_rules kind) ≡ rule_names (front_rules kind) ++ codes "parameters" ∷ [] = ap rule_names (rules_split kind) ∙ names_append (front_rules kind) (parameters_rule ∷ []) in
    let away : Away (codes "parameters") (names front) = subst (Away (codes "parameters")) (sym (zip_names (front_rules kind) front zip)) (apart_last (rule_names (front_rules kind)) (codes "parameters") (subst Apart rule_split (rules_apart kind))) in
    let from_firsts : all ≡ firsts ++ ((fields ++ tails) ++ below_pairs js) = append_assoc firsts (fields ++ tails) (below_pairs js) in
    let from_fields : all ≡ firsts ++ (fields ++ (tails ++ below_pairs js)) = from_firsts ∙ ap (λ l. firsts ++ l) (append_assoc fields tails (below_pairs js)) in
    let firsts_in = all_in all [] firsts ((fields ++ tails) ++ below_pairs js) from_firsts in
    let fields_in = all_in all firsts fields (tails ++ below_pairs js) from_fields in
    let tails_in = all_in all (firsts ++ fields) tails (below_pairs js) (from_fields ∙ sym (append_assoc firsts fields (tails ++ below_pairs js))) in
    record {
      parts = record {
        of_kind = record { members = as_members all; object = refl; own = own; named = ap (option_and_then as_str) (get_in (kind_member kind, string (name_of kind)) all (chosen firsts (kind_member kind, string (name_of kind)) all named firsts_in) apart) };
        checked = no_fault (member_rules kind) all fill (rules_apart kind);
        fields_said = f.said all apart fields_in;
        tail_said = t.said all apart tails_in;
      };
      apart = apart;
      firsts_in = firsts_in;
      below_is = below_of front js apart away;
      texts = text_is firsts fields tails (below_pairs js) members (tail_members (tail_of kind) tail) (parameters_members (map text_of js)) f.texts t.texts (below_texts js);
      fine = λ d first_fine js_fine.
          let ps = all_append (IsFinePair (suc d)) front (below_pairs js)
          (all_append (IsFinePair (suc d)) firsts (fields ++ tails) (raised 0 (suc d) (omega arith) firsts first_fine) (all_append (IsFinePair (suc d)) fields tails (raised 0 (suc d) (omega arith) fields f.fine) (raised 1 (suc d) (omega arith) tails t.fine)))
          (below_fine d js js_fine) in
          let all_fine = members_fine (suc d) all ps in
          (all_fine.0, all_fine.1, (let le = all_fine.2 in omega (arith, le)));
    }
  where
    chosen : (ps : List Pair) (q : Pair) (all : List Pair) → IsIn q ps → AllByRecursion (λ r. IsIn r all) ps → IsIn q all
    chosen [] q all i h = absurd i
    chosen (x ∷ ps) q all (inl e) h = subst (λ r. IsIn r all) (sym e) h.0
    chosen (x ∷ ps) q all (inr i) h = chosen ps q all i h.1

    text_is : (firsts fields tails belows : List Pair) (members tail_texts below_texts : List (List ℕ)) → members_texts (as_members fields) ≡ members → members_texts (as_members tails) ≡ tail_texts → members_texts (as_members belows) ≡ below_texts
        → members_texts (as_members ((firsts ++ (fields ++ tails)) ++ belows)) ≡ members_texts (as_members firsts) ++ (members ++ (tail_texts ++ below_texts))
    text_is firsts fields tails belows members tail_texts below_texts e f g =
        ap (λ l. members_texts (as_members l)) (append_assoc firsts (fields ++ tails) belows ∙ ap (λ l. firsts ++ l) (append_assoc fields tails belows))
        ∙ members_append firsts (fields ++ (tails ++ belows))
        ∙ ap (λ l. members_texts (as_members firsts) ++ l)
        (members_append fields (tails ++ belows) ∙ ap₂ (λ a b. a ++ b) e (members_append tails belows ∙ ap₂ (λ a b. a ++ b) f g))

-- ---- parameters

-- the first member of a parameter
abbrev pub named : ParamKind → List Pair
named kind = (codes "parameter", string (name_of (Parameter kind))) ∷ []

-- the values of parameters in a row
abbrev pub forest_values : (f : Forest) (texts : List (List ℕ)) → AreParameters f texts → List Json
forest_values none texts a = []
forest_values (and before kind fields tail children) texts a =
    forest_values before a.0 a.3
    ++ object (as_members (all_pairs (Parameter kind) (named kind) (field_pairs (plain_fields_of (Parameter kind)) fields a.1 a.4) tail (forest_values children a.2 a.5))) ∷ []

-- what these values are
pub record AreValues (p : KindSet) (most : ℕ) (f : Forest) (texts : List (List ℕ)) (js : List Json) : Type 0 where
  pub texts_are : map text_of js ≡ texts
  pub fine : AllByRecursion (IsFine (2 * most)) js
  pub said : SaysEach (SaysParameter p most) (items_of js) (trees f)

map_more : (js : List Json) (j : Json) → map text_of (js ++ j ∷ []) ≡ map text_of js ++ text_of j ∷ []
map_more [] j = refl
map_more (k ∷ js) j = ap (λ l. text_of k ∷ l) (map_more js j)

said_more : (Says : Json → Tree → Type 0) (js : List Json) (ts : List Tree) (j : Json) (t : Tree) → SaysEach Says (items_of js) ts → Says j t → SaysEach Says (items_of (js ++ j ∷ [])) (ts ++ t ∷ [])
said_more Says [] [] j t h s = (s, tt)
said_more Says [] (u ∷ ts) j t h s = absurd h
said_more Says (k ∷ js) [] j t h s = absurd h
said_more Says (k ∷ js) (u ∷ ts) j t h s = (h.0, said_more Says js ts j t h.1 s)

pub forest_is : (p : KindSet) (most : ℕ) (parent : Kind) (f : Forest) (texts : List (List ℕ)) (a : AreParameters f texts) → set_of_kind parent ≡ p → ArePlaced (groups_of parent) f → AllLawful f → levels f ≤ most → AreValues p most f texts (forest_values f texts a)
unfolding ArePlaced
forest_is p most parent none texts a own placed lawful deep = record { texts_are = sym a; fine = tt; said = tt }
forest_is p zero parent (and before kind fields tail children) texts a own placed lawful deep = absurd (omega arith)
forest_is p (suc most) parent (and before kind fields tail children) texts a own placed lawful deep =
    let here : set_of_kind (Parameter kind) ≡ p = child_set parent kind placed.1 ∙ own in
    let obeys = lawful.1.obeys in
    let earlier = forest_is p (suc most) parent before a.0 a.3 own placed.0 lawful.0 (omega (arith, deep)) in
    let inner = forest_is p most (Parameter kind) children a.2 a.5 here obeys.placed lawful.2 (omega (arith, deep)) in
    let js = forest_values children a.2 a.5 in
    let one = object_is p (Parameter kind) (named kind) fields tail children a.1 a.4 js here obeys ((refl, refl), tt) (inl refl) in
    let all = all_pairs (Parameter kind) (named kind) (field_pairs (plain_fields_of (Parameter kind)) fields a.1 a.4) tail js in
    let j : Json = object (as_members all) in
    let t : Tree = record { kind = kind; fields = fields; tail = tail; children = children } in
    let says : SaysParameter p (suc most) j t = (one.parts, subst (λ x. SaysEach (SaysParameter p most) x (trees children)) (sym one.below_is) inner.said, (lawful.1, lawful.2)) in
    let text : text_of j ≡ written.object (written.member (codes "parameter") (written.string (name_of (Parameter kind))) ∷ (a.1 ++ (tail_members (tail_of (Parameter kind)) tail ++ parameters_members a.2))) =
    ap written.object (one.texts ∙ ap (λ l. written.member (codes "parameter") (written.string (name_of (Parameter kind))) ∷ (a.1 ++ (tail_members (tail_of (Parameter kind)) tail ++ parameters_members l))) inner.texts_are) in
    let fine_here : IsFine (2 * suc most) j = deeper (suc (suc (2 * most))) (2 * suc most) j (omega arith) (one.fine (2 * most) ((ascii_name (codes "parameter") refl, (ascii_name (name_of (Parameter kind)) (kind_ascii (Parameter kind)), tt, omega arith)), tt) inner.fine) in
    record {
      texts_are = map_more (forest_values before a.0 a.3) j ∙ ap₂ (λ x y. x ++ y ∷ []) earlier.texts_are text ∙ sym a.6;
      fine = all_append (IsFine (2 * suc most)) (forest_values before a.0 a.3) (j ∷ []) earlier.fine (fine_here, tt);
      said = said_more (SaysParameter p (suc most)) (forest_values before a.0 a.3) (trees before) j t earlier.said says;
    }
  where
    deeper : (c d : ℕ) (j : Json) → c ≤ d → IsFine c j → IsFine d j
    deeper c d j le f = (f.0, f.1, (let deep = f.2 in omega (arith, le, deep)))
