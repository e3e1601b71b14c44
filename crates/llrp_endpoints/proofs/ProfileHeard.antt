-- A frame of a message of the profile is a frame of a message of the whole standard, of which the profile has that message.
use Rattle.std.proofs.Common.{◌≡◌, ℕ, ◌+◌, ◌/◌, ◌≤◌, ◌==◌, ◌⊎◌, inl, inr, max, List, [], ◌∷◌, ◌++◌, Bool, true, false, not, ◌&&◌, ◌||◌, cond, Option, Some, None, filter, map, nat_lt, length, refl, sym, ap, ◌∙◌, subst, eqb-true, arith}
use Rattle.std.specs.Prelude.{if◌then◌else◌, is_none}
use Rattle.std.specs.List.{list_all, list_any}
use Rattle.std.proofs.lemmas.Bool.{and_parts}
use Rattle.std.proofs.lemmas.List.Sums.{sum_by-cons}
use Rattle.tag_bits.specs.Digits.{digits}
use Rattle.llrp_schema.specs.declared.kinds.MsgKind.{MsgKind}
use Rattle.llrp_schema.specs.declared.kinds.ParamKind.{ParamKind}
use Rattle.llrp_schema.specs.declared.kinds.KindSet.{KindSet}
use Rattle.llrp_schema.specs.declared.kinds.KindSet.TheVariants.{Profile, Standard}
use Rattle.llrp_schema.specs.declared.kinds.Kind.{Kind}
use Rattle.llrp_schema.specs.declared.kinds.Kind.TheVariants.{Message, Parameter}
use Rattle.llrp_schema.specs.declared.kinds.Tail.{Tail}
use Rattle.llrp_schema.specs.declared.kinds.Tail.TheVariants.{Absent}
use Rattle.llrp_schema.specs.Schema.{FieldRule, GroupRule, number_of, fields_of, plain_fields_of, bits_of, tail_of, groups_of, param_kinds, is_tv, set_of_kind, message_in, is_member, has_place}
use Rattle.llrp_schema.proofs.SchemaLemmas.{implied}
use Rattle.llrp_schema.proofs.TableLaws.{message_at_number, message_tail}
use Rattle.llrp_schema.proofs.PlaceLemmas.{child_set}
use Rattle.llrp_tree.specs.Tree.{Forest, none, and, MessageTree}
use Rattle.llrp_tree.specs.Lawful.{AreInRange, IsTail, count, count_octets, ArePlaced, IsAtMost, NoneTooMany, NoneMissing, Obeys, AreLawful, AllLawful, IsLawfulMessage, levels, octets, head_octets, body_octets, message_octets, first, others}
use Rattle.llrp_tree.specs.Spelling.{spread, field_digits, tail_digits, body_digits, head_digits, head_of, tlv, tv, forest_digits, message_digits}
use Rattle.llrp_tree.proofs.LawLemmas.{lawful_to, message_to}
use Rattle.llrp_endpoints.specs.Heard.{add_where, else_kept, groups_where, lawful_where, message_where, own_kind, own_message, own_row, own_where, tree_where}
use Rattle.llrp_endpoints.specs.Calls.HeardLaws.{ProfileIsHeard}
use Rattle.llrp_endpoints.proofs.StandardRows.{Form, form_of, form_in, is_foreign, is_own, is_same, listed, message_form, message_groups, nameless, own_of_standard, param_form, param_groups, same_bool, same_most, standard_kind, standard_message, take_own}

-- ---- fields without their names

plain_nameless : (rules : List FieldRule) → filter (λ rule. not rule.reserved) (map nameless rules) ≡ map nameless (filter (λ rule. not rule.reserved) rules)
plain_nameless [] = refl
plain_nameless (r ∷ rules) = elim r.reserved as (λ b. cond (not b) (nameless r ∷ filter (λ rule. not rule.reserved) (map nameless rules)) (filter (λ rule. not rule.reserved) (map nameless rules)) ≡ map nameless (cond (not b) (r ∷ filter (λ rule. not rule.reserved) rules) (filter (λ rule. not rule.reserved) rules)))
    [ true ↦ plain_nameless rules | false ↦ ap (λ rs. nameless r ∷ rs) (plain_nameless rules) ]

range_to : (rules : List FieldRule) (values : List ℕ) → AreInRange rules values → AreInRange (map nameless rules) values
range_to [] [] h = tt
range_to [] (v ∷ values) h = h
range_to (r ∷ rules) [] h = h
range_to (r ∷ rules) (v ∷ values) h = (h.0, range_to rules values h.1)

range_back : (rules : List FieldRule) (values : List ℕ) → AreInRange (map nameless rules) values → AreInRange rules values
range_back [] [] h = tt
range_back [] (v ∷ values) h = h
range_back (r ∷ rules) [] h = h
range_back (r ∷ rules) (v ∷ values) h = (h.0, range_back rules values h.1)

bits_nameless : (rules : List FieldRule) → bits_of (map nameless rules) ≡ bits_of rules
bits_nameless [] = refl
bits_nameless (r ∷ rules) = sum_by-cons (λ rule. rule.width) (nameless r) (map nameless rules) ∙ ap (λ n. r.width + n) (bits_nameless rules) ∙ sym (sum_by-cons (λ rule. rule.width) r rules)

spread_nameless : (rules : List FieldRule) (values : List ℕ) → spread (map nameless rules) values ≡ spread rules values
spread_nameless [] values = refl
spread_nameless (r ∷ rules) values = elim r.reserved as (λ b. (if b then 0 ∷ spread (map nameless rules) values else first values ∷ spread (map nameless rules) (others values)) ≡ (if b then 0 ∷ spread rules values else first values ∷ spread rules (others values)))
    [ true ↦ ap (λ vs. 0 ∷ vs) (spread_nameless rules values) | false ↦ ap (λ vs. first values ∷ vs) (spread_nameless rules (others values)) ]

digits_nameless : (rules : List FieldRule) (values : List ℕ) → field_digits (map nameless rules) values ≡ field_digits rules values
digits_nameless [] [] = refl
digits_nameless [] (v ∷ values) = refl
digits_nameless (r ∷ rules) [] = refl
digits_nameless (r ∷ rules) (v ∷ values) = ap (λ ds. digits r.width v ++ ds) (digits_nameless rules values)

-- ---- kinds of one form

-- the two kinds have the same number, fields of the same form, and the same tail
record Alike (a b : Kind) : Type 0 where
  number : number_of a ≡ number_of b
  fields : map nameless (fields_of a) ≡ map nameless (fields_of b)
  tail : tail_of a ≡ tail_of b

bits_alike : (a b : Kind) → Alike a b → bits_of (fields_of a) ≡ bits_of (fields_of b)
bits_alike a b s = sym (bits_nameless (fields_of a)) ∙ ap bits_of s.fields ∙ bits_nameless (fields_of b)

body_octets_alike : (a b : Kind) (tail : List ℕ) → Alike a b → body_octets a tail ≡ body_octets b tail
unfolding body_octets
body_octets_alike a b tail s = ap (λ n. n / 8 + count_octets (tail_of a) + length tail) (bits_alike a b s) ∙ ap (λ form. bits_of (fields_of b) / 8 + count_octets form + length tail) s.tail

body_alike : (a b : Kind) (fields tail : List ℕ) → Alike a b → body_digits a fields tail ≡ body_digits b fields tail
unfolding body_digits
body_alike a b fields tail s =
    let names : (k : Kind) → field_digits (map nameless (fields_of k)) (spread (map nameless (fields_of k)) fields) ≡ field_digits (fields_of k) (spread (fields_of k) fields)
    = λ k. digits_nameless (fields_of k) (spread (map nameless (fields_of k)) fields) ∙ ap (field_digits (fields_of k)) (spread_nameless (fields_of k) fields) in
    let same = sym (names a) ∙ ap (λ rules. field_digits rules (spread rules fields)) s.fields ∙ names b in
    ap (λ ds. ds ++ tail_digits (tail_of a) tail) same ∙ ap (λ form. field_digits (fields_of b) (spread (fields_of b) fields) ++ tail_digits form tail) s.tail

range_alike : (a b : Kind) (fields : List ℕ) → Alike a b → AreInRange (plain_fields_of b) fields → AreInRange (plain_fields_of a) fields
range_alike a b fields s h =
    let plain = sym (plain_nameless (fields_of b)) ∙ ap (filter (λ rule. not rule.reserved)) (sym s.fields) ∙ plain_nameless (fields_of a) in
    range_back (plain_fields_of a) fields (subst (λ rules. AreInRange rules fields) plain (range_to (plain_fields_of b) fields h))

form_tail_alike : (a b : Kind) (fields tail : List ℕ) → Alike a b → IsTail (tail_of b) fields tail → IsTail (tail_of a) fields tail
form_tail_alike a b fields tail s h = subst (λ form. IsTail form fields tail) (sym s.tail) h

own_true : (set : KindSet) → set ≡ Profile → is_own set ≡ true
own_true set e = ap is_own e

own_form : (kind : ParamKind) → set_of_kind (Parameter kind) ≡ Profile → form_of (Parameter (standard_kind kind)) ≡ form_in Standard (Parameter kind)
own_form kind own = ap (λ b. cond b (form_of (Parameter (standard_kind kind))) (form_in Standard (Parameter kind))) (sym (own_true (set_of_kind (Parameter kind)) own)) ∙ param_form kind

own_message_form : (kind : MsgKind) → set_of_kind (Message kind) ≡ Profile → form_of (Message (standard_message kind)) ≡ form_in Standard (Message kind)
own_message_form kind own = ap (λ b. cond b (form_of (Message (standard_message kind))) (form_in Standard (Message kind))) (sym (own_true (set_of_kind (Message kind)) own)) ∙ message_form kind

alike_of : (a b : Kind) → form_of a ≡ form_in Standard b → Alike a b
alike_of a b e = record { number = ap (λ (f : Form). f.number) e; fields = ap (λ (f : Form). f.fields) e; tail = ap (λ (f : Form). f.tail) e }

param_alike : (kind : ParamKind) → set_of_kind (Parameter kind) ≡ Profile → Alike (Parameter (standard_kind kind)) (Parameter kind)
param_alike kind own = alike_of (Parameter (standard_kind kind)) (Parameter kind) (own_form kind own)

tv_alike : (a b : ParamKind) → Alike (Parameter a) (Parameter b) → is_tv a ≡ is_tv b
unfolding is_tv
tv_alike a b s = ap (λ n. nat_lt n 128) s.number

own_found : (kind : ParamKind) → set_of_kind (Parameter kind) ≡ Profile → own_kind (standard_kind kind) ≡ Some kind
own_found kind own = ap (λ b. cond b (own_kind (standard_kind kind)) (Some kind)) (sym (own_true (set_of_kind (Parameter kind)) own)) ∙ own_of_standard kind

-- ---- rows of the whole standard

abbrev standard_row : Forest → Forest
standard_row none = none
standard_row (and before kind fields tail children) = and (standard_row before) (standard_kind kind) fields tail (standard_row children)

-- each parameter is of the profile
abbrev AllOwn : Forest → Type 0
AllOwn none = Unit {0}
AllOwn (and before kind fields tail children) = AllOwn before × (set_of_kind (Parameter kind) ≡ Profile) × AllOwn children

all_own : (parent : Kind) (row : Forest) → set_of_kind parent ≡ Profile → ArePlaced (groups_of parent) row → AllLawful row → AllOwn row
unfolding ArePlaced
all_own parent none own placed lawful = tt
all_own parent (and before kind fields tail children) own placed lawful =
    let is : set_of_kind (Parameter kind) ≡ Profile = child_set parent kind placed.1 ∙ own in
    (all_own parent before own placed.0 lawful.0, is, all_own (Parameter kind) children is lawful.1.obeys.placed lawful.2)

levels_same : (row : Forest) → levels (standard_row row) ≡ levels row
levels_same none = refl
levels_same (and before kind fields tail children) = ap (λ n. max n (levels (standard_row children) + 1)) (levels_same before) ∙ ap (λ n. max (levels before) (n + 1)) (levels_same children)

head_octets_same : (a b : ParamKind) → Alike (Parameter a) (Parameter b) → head_octets a ≡ head_octets b
head_octets_same a b s = ap (λ b. if b then 1 else 4) (tv_alike a b s)

octets_same : (row : Forest) → AllOwn row → octets (standard_row row) ≡ octets row
octets_same none all = refl
octets_same (and before kind fields tail children) all =
    let s = param_alike kind all.1 in
    let a = octets_same before all.0 in
    let b = head_octets_same (standard_kind kind) kind s in
    let c = body_octets_alike (Parameter (standard_kind kind)) (Parameter kind) tail s in
    let d = octets_same children all.2 in
    rw (a, b, c, d) refl

head_same : (a b : ParamKind) (n : ℕ) → Alike (Parameter a) (Parameter b) → head_digits (head_of a n) ≡ head_digits (head_of b n)
unfolding head_digits
head_same a b n s = go (is_tv a) (is_tv b) (tv_alike a b s)
  where
    go : (p q : Bool) → p ≡ q → head_digits (if p then tv a else tlv a n) ≡ head_digits (if q then tv b else tlv b n)
    go true true e = ap (λ m. digits 1 1 ++ digits 7 m) s.number
    go false false e = ap (λ m. digits 6 0 ++ digits 10 m ++ digits 16 n) s.number
    go true false e = cc e
    go false true e = cc e

row_digits_same : (row : Forest) → AllOwn row → forest_digits (standard_row row) ≡ forest_digits row
unfolding forest_digits
row_digits_same none all = refl
row_digits_same (and before kind fields tail children) all =
    let s = param_alike kind all.1 in
    let whole = standard_kind kind in
    let long : head_octets whole + body_octets (Parameter whole) tail + octets (standard_row children) ≡ head_octets kind + body_octets (Parameter kind) tail + octets children
    = rw (head_octets_same whole kind s, body_octets_alike (Parameter whole) (Parameter kind) tail s, octets_same children all.2) refl in
    let head = ap (λ n. head_digits (head_of whole n)) long ∙ head_same whole kind (head_octets kind + body_octets (Parameter kind) tail + octets children) s in
    let body = body_alike (Parameter whole) (Parameter kind) fields tail s in
    rw (row_digits_same before all.0, head, body, row_digits_same children all.2) refl

-- ---- groups

-- of the kinds of the profile the groups have the same
AreSame : GroupRule → GroupRule → Type 0
AreSame group own = (kind : ParamKind) → set_of_kind (Parameter kind) ≡ Profile → is_member group (standard_kind kind) ≡ is_member own kind

count_same : (group own : GroupRule) (row : Forest) → AreSame group own → AllOwn row → count group (standard_row row) ≡ count own row
unfolding count AreSame
count_same group own none same all = refl
count_same group own (and before kind fields tail children) same all =
    ap (λ b. if b then count group (standard_row before) + 1 else count group (standard_row before)) (same kind all.1)
    ∙ ap (λ n. if is_member own kind then n + 1 else n) (count_same group own before same all.0)

count_none : (group : GroupRule) (row : Forest) → ((kind : ParamKind) → set_of_kind (Parameter kind) ≡ Profile → is_member group (standard_kind kind) ≡ false) → AllOwn row → count group (standard_row row) ≡ 0
unfolding count
count_none group none out all = refl
count_none group (and before kind fields tail children) out all =
    ap (λ b. if b then count group (standard_row before) + 1 else count group (standard_row before)) (out kind all.1) ∙ count_none group before out all.0

not_false : (b : Bool) → not b ≡ true → b ≡ false
not_false true e = cc e
not_false false e = refl

bool_same : (a b : Bool) → same_bool a b ≡ true → a ≡ b
bool_same true b e = sym e
bool_same false true e = cc e
bool_same false false e = refl

most_same : (m n : Option ℕ) → same_most m n ≡ true → m ≡ n
most_same None None e = refl
most_same (Some m) (Some n) e = ap Some (eqb-true m n e)
most_same None (Some n) e = cc e
most_same (Some m) None e = cc e

either : (a b : Bool) → (a || b) ≡ true → (a ≡ true) ⊎ (b ≡ true)
either true b e = inl refl
either false b e = inr e

-- a count of such a row is within a group's bounds
record IsWithin (group : GroupRule) (n : ℕ) : Type 0 where
  most : IsAtMost n group.most
  least : group.least ≤ n

at_most_none : (most : Option ℕ) → IsAtMost 0 most
at_most_none None = tt
at_most_none (Some most) = omega arith

foreign_within : (group : GroupRule) (row : Forest) → is_foreign group ≡ true → AllOwn row → IsWithin group (count group (standard_row row))
foreign_within group row e all =
    let parts = and_parts (group.least == 0) (list_all (λ kind. not (is_member group (standard_kind kind))) param_kinds) e in
    let zero = count_none group row (λ kind own. not_false (is_member group (standard_kind kind)) (listed (λ kind. not (is_member group (standard_kind kind))) kind parts.1 own)) all in
    let least = eqb-true group.least 0 parts.0 in
    subst (λ n. IsWithin group n) (sym zero) (record { most = at_most_none group.most; least = omega (arith, least) })

same_within : (group own : GroupRule) (row : Forest) → is_same group own ≡ true → AllOwn row → IsWithin own (count own row) → IsWithin group (count group (standard_row row))
unfolding AreSame
same_within group own row e all within =
    let parts = and_parts (group.least == own.least) (same_most group.most own.most && list_all (λ kind. same_bool (is_member group (standard_kind kind)) (is_member own kind)) param_kinds) e in
    let others = and_parts (same_most group.most own.most) (list_all (λ kind. same_bool (is_member group (standard_kind kind)) (is_member own kind)) param_kinds) parts.1 in
    let counts = count_same group own row (λ kind is. bool_same (is_member group (standard_kind kind)) (is_member own kind) (listed (λ kind. same_bool (is_member group (standard_kind kind)) (is_member own kind)) kind others.1 is)) all in
    let least = eqb-true group.least own.least parts.0 in
    subst (λ n. IsWithin group n) (sym counts) (record { most = subst (λ m. IsAtMost (count own row) m) (sym (most_same group.most own.most others.0)) within.most; least = omega (arith, least, within.least) })

-- one of the profile's groups is the same
any_within : (group : GroupRule) (owns : List GroupRule) (row : Forest) → list_any (λ own. is_same group own) owns ≡ true → AllOwn row → NoneTooMany owns row → NoneMissing owns row → IsWithin group (count group (standard_row row))
unfolding NoneTooMany NoneMissing
any_within group [] row e all most least = cc e
any_within group (own ∷ owns) row e all most least = go (λ later. any_within group owns row later all most.1 least.1) (either (is_same group own) (list_any (λ own. is_same group own) owns) e)
  where
    go : (list_any (λ own. is_same group own) owns ≡ true → IsWithin group (count group (standard_row row))) → (is_same group own ≡ true) ⊎ (list_any (λ own. is_same group own) owns ≡ true) → IsWithin group (count group (standard_row row))
    go after (inl here) = same_within group own row here all (record { most = most.0; least = least.0 })
    go after (inr later) = after later

group_within : (group : GroupRule) (owns : List GroupRule) (row : Forest) → (is_foreign group || list_any (λ own. is_same group own) owns) ≡ true → AllOwn row → NoneTooMany owns row → NoneMissing owns row → IsWithin group (count group (standard_row row))
group_within group owns row e all most least = go (either (is_foreign group) (list_any (λ own. is_same group own) owns) e)
  where
    go : (is_foreign group ≡ true) ⊎ (list_any (λ own. is_same group own) owns ≡ true) → IsWithin group (count group (standard_row row))
    go (inl foreign) = foreign_within group row foreign all
    go (inr own) = any_within group owns row own all most least

groups_within : (groups owns : List GroupRule) (row : Forest) → list_all (λ group. is_foreign group || list_any (λ own. is_same group own) owns) groups ≡ true → AllOwn row → NoneTooMany owns row → NoneMissing owns row
    → NoneTooMany groups (standard_row row) × NoneMissing groups (standard_row row)
unfolding NoneTooMany NoneMissing
groups_within [] owns row e all most least = (tt, tt)
groups_within (group ∷ groups) owns row e all most least =
    let parts = and_parts (is_foreign group || list_any (λ own. is_same group own) owns) (list_all (λ group. is_foreign group || list_any (λ own. is_same group own) owns) groups) e in
    let here = group_within group owns row parts.0 all most least in
    let later = groups_within groups owns row parts.1 all most least in
    ((here.most, later.0), (here.least, later.1))

placed_within : (groups owns : List GroupRule) (row : Forest) → list_all (λ kind. not (has_place owns kind) || has_place groups (standard_kind kind)) param_kinds ≡ true → AllOwn row → ArePlaced owns row → ArePlaced groups (standard_row row)
unfolding ArePlaced
placed_within groups owns none e all placed = tt
placed_within groups owns (and before kind fields tail children) e all placed = (
  placed_within groups owns before e all.0 placed.0,
  implied (has_place owns kind) (has_place groups (standard_kind kind)) (listed (λ kind. not (has_place owns kind) || has_place groups (standard_kind kind)) kind e all.1) placed.1,
)

-- ---- lawful rows and messages

obeys_alike : (a b : Kind) (fields tail : List ℕ) (row : Forest) → Alike a b → take_own (groups_of a) (groups_of b) ≡ true → AllOwn row → Obeys b fields tail row → Obeys a fields tail (standard_row row)
obeys_alike a b fields tail row s e all obeys =
    let parts = and_parts (list_all (λ group. is_foreign group || list_any (λ own. is_same group own) (groups_of b)) (groups_of a)) (list_all (λ kind. not (has_place (groups_of b) kind) || has_place (groups_of a) (standard_kind kind)) param_kinds) e in
    let within = groups_within (groups_of a) (groups_of b) row parts.0 all obeys.most obeys.least in
    record {
      ranges = range_alike a b fields s obeys.ranges;
      form = form_tail_alike a b fields tail s obeys.form;
      bytes = obeys.bytes;
      placed = placed_within (groups_of a) (groups_of b) row parts.1 all obeys.placed;
      most = within.0;
      least = within.1;
    }

row_lawful : (row : Forest) → AllOwn row → AllLawful row → AllLawful (standard_row row)
row_lawful none all lawful = tt
row_lawful (and before kind fields tail children) all lawful =
    let s = param_alike kind all.1 in
    let whole = standard_kind kind in
    let groups = implied (is_own (set_of_kind (Parameter kind))) (take_own (groups_of (Parameter whole)) (groups_of (Parameter kind))) (param_groups kind) (own_true (set_of_kind (Parameter kind)) all.1) in
    let one = lawful.1 in (
      row_lawful before all.0 lawful.0,
      record {
        obeys = obeys_alike (Parameter whole) (Parameter kind) fields tail children s groups all.2 one.obeys;
        deep = (let same = levels_same children in omega (arith, same, one.deep));
        long = (let a = head_octets_same whole kind s in let b = body_octets_alike (Parameter whole) (Parameter kind) tail s in let c = octets_same children all.2 in omega (arith, a, b, c, one.long));
      },
      row_lawful children all.2 lawful.2,
    )

-- ---- what the profile has of such a row is the row

pub lawful_where_is : (kind : ParamKind) (fields tail : List ℕ) (children : Forest) → AreLawful kind fields tail children → lawful_where kind fields tail children ≡ Some (record { kind = kind; fields = fields; tail = tail; children = children })
lawful_where_is kind fields tail children lawful = ap (λ fault. if is_none fault then Some (record { kind = kind; fields = fields; tail = tail; children = children }) else None) (lawful_to kind fields tail children lawful)

own_row_is : (parent : Kind) (row : Forest) → ArePlaced (groups_of parent) row → AllOwn row → AllLawful row → own_row (groups_of parent) (standard_row row) ≡ row
unfolding own_row ArePlaced
own_row_is parent none placed all lawful = refl
own_row_is parent (and before kind fields tail children) placed all lawful =
    let one = lawful.1 in
    let found = own_found kind all.1 in
    let below = own_row_is (Parameter kind) children one.obeys.placed all.2 lawful.2 in
    let earlier = own_row_is parent before placed.0 all.0 lawful.0 in
    let tree : tree_where (groups_of parent) (own_kind (standard_kind kind)) fields tail (own_row (groups_where (own_kind (standard_kind kind))) (standard_row children)) ≡ Some (record { kind = kind; fields = fields; tail = tail; children = children })
    = ap (λ own. tree_where (groups_of parent) own fields tail (own_row (groups_where own) (standard_row children))) found
    ∙ ap (λ b. if b then else_kept kind fields (lawful_where kind fields tail (own_row (groups_of (Parameter kind)) (standard_row children))) else None) placed.1
    ∙ ap (λ row. else_kept kind fields (lawful_where kind fields tail row)) below
    ∙ ap (else_kept kind fields) (lawful_where_is kind fields tail children one) in
    ap (λ t. add_where (own_row (groups_of parent) (standard_row before)) t) tree ∙ ap (λ b. and b kind fields tail children) earlier

-- ---- messages

abbrev standard_of : MessageTree → MessageTree
standard_of m = record { version = m.version; id = m.id; kind = standard_message m.kind; fields = m.fields; tail = m.tail; children = standard_row m.children }

message_octets_same : (m : MessageTree) → Alike (Message (standard_message m.kind)) (Message m.kind) → AllOwn m.children → message_octets (standard_of m) ≡ message_octets m
message_octets_same m s all = rw (body_octets_alike (Message (standard_message m.kind)) (Message m.kind) m.tail s, octets_same m.children all) refl

message_digits_same : (m : MessageTree) → Alike (Message (standard_message m.kind)) (Message m.kind) → AllOwn m.children → message_digits (standard_of m) ≡ message_digits m
unfolding head_digits
message_digits_same m s all =
    rw (message_octets_same m s all, s.number, body_alike (Message (standard_message m.kind)) (Message m.kind) m.fields m.tail s, row_digits_same m.children all) refl

absent_tail : (form : Tail) (fields tail : List ℕ) → form ≡ Absent → IsTail form fields tail → tail ≡ []
absent_tail form fields tail e h = subst (λ f. IsTail f fields tail) e h

own_message_is : (m : MessageTree) → set_of_kind (Message m.kind) ≡ Profile → Alike (Message (standard_message m.kind)) (Message m.kind) → AllOwn m.children → IsLawfulMessage m → own_message (standard_of m) ≡ Some m
unfolding own_message
own_message_is m own s all lawful =
    let found : message_in Profile (number_of (Message (standard_message m.kind))) ≡ Some m.kind
    = ap (message_in Profile) s.number ∙ ap (λ set. message_in set (number_of (Message m.kind))) (sym own) ∙ message_at_number m.kind in
    let empty = absent_tail (tail_of (Message m.kind)) m.fields m.tail (message_tail m.kind own) lawful.obeys.form in
    let row = own_row_is (Message m.kind) m.children lawful.obeys.placed all lawful.children in
    ap (λ kind. own_where kind (standard_of m)) found
    ∙ ap (λ children. message_where (record { version = m.version; id = m.id; kind = m.kind; fields = m.fields; tail = []; children = children })) row
    ∙ ap (λ tail. message_where (record { version = m.version; id = m.id; kind = m.kind; fields = m.fields; tail = tail; children = m.children })) (sym empty)
    ∙ ap (λ fault. if is_none fault then Some m else None) (message_to m lawful)

pub profile_is_heard : ProfileIsHeard
profile_is_heard own bytes limit is frame =
    let form = own_message_form own.kind is in
    let s = alike_of (Message (standard_message own.kind)) (Message own.kind) form in
    let lawful = frame.lawful in
    let all = all_own (Message own.kind) own.children is lawful.obeys.placed lawful.children in
    let groups = implied (is_own (set_of_kind (Message own.kind))) (take_own (groups_of (Message (standard_message own.kind))) (groups_of (Message own.kind))) (message_groups own.kind) (own_true (set_of_kind (Message own.kind)) is) in
    let long = message_octets_same own s all in (
      standard_of own,
      record {
        of_the_standard = ap (λ (f : Form). f.set) form;
        frame = record {
          lawful = record {
            version = lawful.version;
            id = lawful.id;
            obeys = obeys_alike (Message (standard_message own.kind)) (Message own.kind) own.fields own.tail own.children s groups all lawful.obeys;
            children = row_lawful own.children all lawful.children;
            long = omega (arith, long, lawful.long);
          };
          octets = frame.octets;
          spelled = frame.spelled ∙ sym (message_digits_same own s all);
          short = frame.short;
        };
        heard = own_message_is own is s all lawful;
      },
    )
