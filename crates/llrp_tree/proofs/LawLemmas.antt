-- Parts are lawful exactly where no test fails.
use Rattle.std.proofs.Common.{◌≡◌, ℕ, suc, ◌+◌, ◌/◌, ◌%◌, ◌<◌, ◌^◌, List, [], ◌∷◌, ◌++◌, Bool, true, false, cond, refl, sym, ap, ◌∙◌, subst, arith, length}
use Rattle.std.specs.Prelude.{Option, None, Some, nat_le, if◌then◌else◌, ◌&&◌, ◌==◌, ◌||◌, ◌⊎◌, ◌↔◌, filter, not}
use Rattle.std.proofs.Common.{inl, inr}
use Rattle.std.proofs.lemmas.Bool.{le-leb, leb-true, eqb-true, eq-eqb}
use Rattle.std.proofs.lemmas.List.Folds.{list_all-append}
use Rattle.std.proofs.lemmas.List.Sums.{sum_by-append, sum_by-cons}
use Rattle.std.proofs.lemmas.Str.{is_utf8-from_IsUtf8, IsUtf8-from_is_utf8}
use Rattle.llrp_schema.specs.declared.kinds.ParamKind.{ParamKind}
use Rattle.llrp_schema.specs.declared.kinds.MsgKind.{MsgKind}
use Rattle.llrp_schema.specs.declared.kinds.Kind.{Kind}
use Rattle.llrp_schema.specs.declared.kinds.Kind.TheVariants.{Message, Parameter}
use Rattle.llrp_schema.specs.declared.kinds.Tail.{Tail}
use Rattle.llrp_schema.specs.declared.kinds.Tail.TheVariants.{Absent, Words, Text, Bits, Data}
use Rattle.llrp_schema.specs.Schema.{FieldRule, GroupRule, fields_of, plain_fields_of, groups_of, tail_of}
use Rattle.llrp_tree.specs.declared.node.NodeFault.{NodeFault}
use Rattle.llrp_tree.specs.Tree.{Forest, none, and, Tree, MessageTree, trees}
use Rattle.llrp_tree.specs.Lawful.{AreInRange, AreOctets, first, IsTail, is_member, has_place, count, ArePlaced, IsAtMost, NoneTooMany, NoneMissing, Obeys, AreLawful, AllLawful, IsLawfulMessage}
use Rattle.llrp_tree.specs.Checks.{values_fit, tail_fits, members, all_placed, none_too_many, none_missing, table_tests, first_fault, first_message_fault}
use Rattle.llrp_tree.specs.Lawful.{at_most}
use Rattle.llrp_tree.proofs.TestLemmas.{AllPass, all_pass, none_fails}

pub both : (a b : Bool) → (a && b) ≡ true → (a ≡ true) × (b ≡ true)
both true b e = (refl, e)
both false b e = absurd cc

pub both_true : (a b : Bool) → a ≡ true → b ≡ true → (a && b) ≡ true
both_true a b e f = rw (e, f) refl

pub same_number : (m n : ℕ) → m ≡ n → (m == n) ≡ true
same_number m n e = eq-eqb m n e

-- ---- fields

range_from : (rules : List FieldRule) (values : List ℕ) → length values ≡ length (filter (λ x. not x.reserved) rules) → values_fit rules values ≡ true → AreInRange (filter (λ x. not x.reserved) rules) values
range_from [] [] l e = tt
range_from [] (v ∷ values) l e = absurd (omega (arith, l))
range_from (r ∷ rules) [] l e =
    (elim r.reserved as (λ b. 0 ≡ length (cond (not b) (r ∷ filter (λ x. not x.reserved) rules) (filter (λ x. not x.reserved) rules)) → (if b then values_fit rules [] else false) ≡ true → AreInRange (cond (not b) (r ∷ filter (λ x. not x.reserved) rules) (filter (λ x. not x.reserved) rules)) [])
    [ true ↦ λ h g. range_from rules [] h g | false ↦ λ h g. absurd cc ]) l e
range_from (r ∷ rules) (v ∷ values) l e =
    (elim r.reserved as (λ b. suc (length values) ≡ length (cond (not b) (r ∷ filter (λ x. not x.reserved) rules) (filter (λ x. not x.reserved) rules)) → (if b then values_fit rules (v ∷ values) else (nat_le v r.greatest && values_fit rules values)) ≡ true → AreInRange (cond (not b) (r ∷ filter (λ x. not x.reserved) rules) (filter (λ x. not x.reserved) rules)) (v ∷ values))
    [ true ↦ λ h g. range_from rules (v ∷ values) h g | false ↦ λ h g. let p = both (nat_le v r.greatest) (values_fit rules values) g in (leb-true v r.greatest p.0, range_from rules values (omega (arith, h)) p.1) ]) l e

pub range_length : (rules : List FieldRule) (values : List ℕ) → AreInRange rules values → length values ≡ length rules
range_length [] [] h = refl
range_length [] (v ∷ values) h = absurd h
range_length (r ∷ rules) [] h = absurd h
range_length (r ∷ rules) (v ∷ values) h = ap suc (range_length rules values h.1)

pub range_fits : (rules : List FieldRule) (values : List ℕ) → AreInRange (filter (λ x. not x.reserved) rules) values → values_fit rules values ≡ true
range_fits [] values h = refl
range_fits (r ∷ rules) [] h =
    (elim r.reserved as (λ b. AreInRange (cond (not b) (r ∷ filter (λ x. not x.reserved) rules) (filter (λ x. not x.reserved) rules)) [] → (if b then values_fit rules [] else false) ≡ true)
    [ true ↦ λ g. range_fits rules [] g | false ↦ λ g. absurd g ]) h
range_fits (r ∷ rules) (v ∷ values) h =
    (elim r.reserved as (λ b. AreInRange (cond (not b) (r ∷ filter (λ x. not x.reserved) rules) (filter (λ x. not x.reserved) rules)) (v ∷ values) → (if b then values_fit rules (v ∷ values) else (nat_le v r.greatest && values_fit rules values)) ≡ true)
    [ true ↦ λ g. range_fits rules (v ∷ values) g | false ↦ λ g. both_true (nat_le v r.greatest) (values_fit rules values) (le-leb v r.greatest g.0) (range_fits rules values g.1) ]) h

-- ---- the tail

tail_from : (form : Tail) (values tail : List ℕ) → tail_fits form values tail ≡ true → IsTail form values tail
tail_from Absent values [] e = refl
tail_from Absent values (o ∷ os) e = absurd (let z = eqb-true (suc (length os)) 0 e in omega arith)
tail_from Words values tail e = let p = both (length tail % 2 == 0) (nat_le (length tail / 2) 65535) e in
    (length tail / 2, leb-true (length tail / 2) 65535 p.1, (let z = eqb-true (length tail % 2) 0 p.0 in omega arith))
tail_from Text values tail e = let p = both (nat_le (length tail) 65535) _ e in (leb-true (length tail) 65535 p.0, IsUtf8-from_is_utf8 tail p.1)
tail_from Bits values tail e = eqb-true (length tail) ((first values + 7) / 8) e
tail_from Data values tail e = tt

tail_to : (form : Tail) (values tail : List ℕ) → IsTail form values tail → tail_fits form values tail ≡ true
tail_to Absent values tail h = rw h refl
tail_to Words values tail h = both_true (length tail % 2 == 0) (nat_le (length tail / 2) 65535) (same_number (length tail % 2) 0 (omega (arith, h.2))) (le-leb (length tail / 2) 65535 (omega (arith, h.1, h.2)))
tail_to Text values tail h = both_true (nat_le (length tail) 65535) _ (le-leb (length tail) 65535 h.0) (is_utf8-from_IsUtf8 tail h.1)
tail_to Bits values tail h = same_number (length tail) ((first values + 7) / 8) h
tail_to Data values tail h = refl

-- ---- groups

pub count-members : (g : GroupRule) (f : Forest) → count g f ≡ members g (trees f)
unfolding count
count-members g none = refl
count-members g (and before k vs tail cs) =
    let t : Tree = record { kind = k; fields = vs; tail = tail; children = cs } in
    let f : Tree → ℕ = λ x. cond (is_member g x.kind) 1 0 in
    let ih = count-members g before in
    let split : members g (trees before ++ t ∷ []) ≡ members g (trees before) + f t = sum_by-append f (trees before) (t ∷ []) ∙ (let c = sum_by-cons f t [] in omega arith) in
    (elim (is_member g k) as (λ b. (if b then count g before + 1 else count g before) ≡ members g (trees before) + cond b 1 0) [ true ↦ omega arith | false ↦ omega arith ]) ∙ sym split

placed_from : (gs : List GroupRule) (f : Forest) → all_placed gs (trees f) ≡ true → ArePlaced gs f
unfolding ArePlaced all_placed
placed_from gs none e = tt
placed_from gs (and before k vs tail cs) e =
    let p = both _ _ (sym (list_all-append (λ t. has_place gs t.kind) (trees before) (record { kind = k; fields = vs; tail = tail; children = cs } ∷ [])) ∙ e) in
    (placed_from gs before p.0, (both (has_place gs k) true p.1).0)

placed_to : (gs : List GroupRule) (f : Forest) → ArePlaced gs f → all_placed gs (trees f) ≡ true
unfolding ArePlaced all_placed
placed_to gs none h = refl
placed_to gs (and before k vs tail cs) h =
    list_all-append (λ t. has_place gs t.kind) (trees before) (record { kind = k; fields = vs; tail = tail; children = cs } ∷ []) ∙ both_true _ _ (placed_to gs before h.0) (both_true (has_place gs k) true h.1 refl)

pub most_from : (m : Option ℕ) (n : ℕ) → at_most m n ≡ true → IsAtMost n m
most_from None n e = tt
most_from (Some m) n e = leb-true n m e

pub most_to : (m : Option ℕ) (n : ℕ) → IsAtMost n m → at_most m n ≡ true
most_to None n h = refl
most_to (Some m) n h = le-leb n m h

too_many_from : (gs : List GroupRule) (f : Forest) → none_too_many gs (trees f) ≡ true → NoneTooMany gs f
unfolding NoneTooMany none_too_many
too_many_from [] f e = tt
too_many_from (g ∷ gs) f e = let p = both (at_most g.most (members g (trees f))) _ e in (most_from g.most (count g f) (ap (at_most g.most) (count-members g f) ∙ p.0), too_many_from gs f p.1)

too_many_to : (gs : List GroupRule) (f : Forest) → NoneTooMany gs f → none_too_many gs (trees f) ≡ true
unfolding NoneTooMany none_too_many
too_many_to [] f h = refl
too_many_to (g ∷ gs) f h = both_true _ _ (ap (at_most g.most) (sym (count-members g f)) ∙ most_to g.most (count g f) h.0) (too_many_to gs f h.1)

missing_from : (gs : List GroupRule) (f : Forest) → none_missing gs (trees f) ≡ true → NoneMissing gs f
unfolding NoneMissing none_missing
missing_from [] f e = tt
missing_from (g ∷ gs) f e = let p = both (nat_le g.least (members g (trees f))) _ e in ((let a = leb-true g.least (members g (trees f)) p.0 in omega (arith, count-members g f)), missing_from gs f p.1)

missing_to : (gs : List GroupRule) (f : Forest) → NoneMissing gs f → none_missing gs (trees f) ≡ true
unfolding NoneMissing none_missing
missing_to [] f h = refl
missing_to (g ∷ gs) f h = both_true _ _ (le-leb g.least (members g (trees f)) (omega (arith, count-members g f, h.0))) (missing_to gs f h.1)

-- ---- the table

obeys_from : (kind : Kind) (version : Bool) (values tail : List ℕ) (f : Forest) → AreOctets tail → AllPass (table_tests kind version values tail (trees f)) → Obeys kind values tail f
unfolding table_tests
obeys_from kind version values tail f os p = record {
  ranges = range_from (fields_of kind) values (eqb-true _ _ p.0) (both version (values_fit (fields_of kind) values) p.1.0).1;
  form = tail_from (tail_of kind) values tail p.1.1.0;
  bytes = os;
  placed = placed_from (groups_of kind) f p.1.1.1.0;
  most = too_many_from (groups_of kind) f p.1.1.1.1.0;
  least = missing_from (groups_of kind) f p.1.1.1.1.1.0;
}

obeys_to : (kind : Kind) (version : Bool) (values tail : List ℕ) (f : Forest) → version ≡ true → Obeys kind values tail f → AllPass (table_tests kind version values tail (trees f))
unfolding table_tests
obeys_to kind version values tail f v h =
    (same_number (length values) (length (plain_fields_of kind)) (range_length (plain_fields_of kind) values h.ranges), (both_true version (values_fit (fields_of kind) values) v (range_fits (fields_of kind) values h.ranges), (tail_to (tail_of kind) values tail h.form, (placed_to (groups_of kind) f h.placed, (too_many_to (groups_of kind) f h.most, (missing_to (groups_of kind) f h.least, tt))))))

all_pass_append : (xs ys : List (Bool × NodeFault)) → AllPass (xs ++ ys) → AllPass xs × AllPass ys
all_pass_append [] ys h = (tt, h)
all_pass_append (x ∷ xs) ys h = let r = all_pass_append xs ys h.1 in ((h.0, r.0), r.1)

all_pass_both : (xs ys : List (Bool × NodeFault)) → AllPass xs → AllPass ys → AllPass (xs ++ ys)
all_pass_both [] ys h g = g
all_pass_both (x ∷ xs) ys h g = (h.0, all_pass_both xs ys h.1 g)

-- parts of which no test fails are lawful
pub lawful_from : (kind : ParamKind) (values tail : List ℕ) (f : Forest) → AreOctets tail → first_fault kind values tail f ≡ None → AreLawful kind values tail f
unfolding first_fault
lawful_from kind values tail f os e =
    let p = all_pass_append (table_tests (Parameter kind) true values tail (trees f)) _ (all_pass _ e) in
    record { obeys = obeys_from (Parameter kind) true values tail f os p.0; deep = leb-true _ _ p.1.0; long = leb-true _ _ p.1.1.0 }

pub lawful_to : (kind : ParamKind) (values tail : List ℕ) (f : Forest) → AreLawful kind values tail f → first_fault kind values tail f ≡ None
unfolding first_fault
lawful_to kind values tail f h =
    none_fails _ (all_pass_both (table_tests (Parameter kind) true values tail (trees f)) _ (obeys_to (Parameter kind) true values tail f refl h.obeys) (le-leb _ _ h.deep, (le-leb _ _ h.long, tt)))

version_test : (version : Bool) (kind : MsgKind) (values tail : List ℕ) (f : Forest) → AllPass (table_tests (Message kind) version values tail (trees f)) → version ≡ true
unfolding table_tests
version_test version kind values tail f p = (both version (values_fit (fields_of (Message kind)) values) p.1.0).0

pub version_from : (v : ℕ) → ((v == 1) || (v == 2)) ≡ true → (v ≡ 1) ⊎ (v ≡ 2)
version_from v e =
    (elim (v == 1) as (λ b. (v == 1) ≡ b → (b || (v == 2)) ≡ true → (v ≡ 1) ⊎ (v ≡ 2)) [ true ↦ λ h g. inl (eqb-true v 1 h) | false ↦ λ h g. inr (eqb-true v 2 g) ]) refl e

pub version_to : (v : ℕ) → (v ≡ 1) ⊎ (v ≡ 2) → ((v == 1) || (v == 2)) ≡ true
version_to v (inl e) = rw e refl
version_to v (inr e) = rw e refl

pub message_from : (v id : ℕ) (kind : MsgKind) (values tail : List ℕ) (f : Forest) → id < 2 ^ 32 → AreOctets tail → AllLawful f → first_message_fault v kind values tail f ≡ None
    → IsLawfulMessage (record { version = v; id = id; kind = kind; fields = values; tail = tail; children = f })
unfolding first_message_fault
message_from v id kind values tail f small os cs e =
    let p = all_pass_append (table_tests (Message kind) ((v == 1) || (v == 2)) values tail (trees f)) _ (all_pass _ e) in
    record { version = version_from v (version_test ((v == 1) || (v == 2)) kind values tail f p.0); id = small; obeys = obeys_from (Message kind) ((v == 1) || (v == 2)) values tail f os p.0; children = cs; long = leb-true _ _ p.1.0 }

pub message_to : (m : MessageTree) → IsLawfulMessage m → first_message_fault m.version m.kind m.fields m.tail m.children ≡ None
unfolding first_message_fault
message_to m h =
    none_fails _ (all_pass_both (table_tests (Message m.kind) ((m.version == 1) || (m.version == 2)) m.fields m.tail (trees m.children)) _ (obeys_to (Message m.kind) ((m.version == 1) || (m.version == 2)) m.fields m.tail m.children (version_to m.version h.version) h.obeys) (le-leb _ _ h.long, tt))

-- the same, as `Node::new` has it
pub lawful_parts : (kind : ParamKind) (values tail : List ℕ) (f : Forest) (lent : List ℕ) (row : Forest) → lent ≡ tail → row ≡ f → AreOctets lent → None ≡ first_fault kind values lent row → AreLawful kind values tail f
lawful_parts kind values tail f lent row same same_row os e =
    subst (λ (x : List ℕ). AreLawful kind values x f) same (subst (λ (x : Forest). AreLawful kind values lent x) same_row (lawful_from kind values lent row os (sym e)))

-- the same, as `Message::checked` has it
pub message_parts : (v id : ℕ) (kind : MsgKind) (values tail : List ℕ) (f : Forest) (lent : List ℕ) (row : Forest) → lent ≡ tail → row ≡ f → id < 2 ^ 32 → AreOctets lent → AllLawful row → None ≡ first_message_fault v kind values lent row
    → IsLawfulMessage (record { version = v; id = id; kind = kind; fields = values; tail = tail; children = f })
message_parts v id kind values tail f lent row same_tail same small os cs e =
    subst (λ (x : List ℕ). IsLawfulMessage (record { version = v; id = id; kind = kind; fields = values; tail = x; children = f })) same_tail
    (subst (λ (x : Forest). IsLawfulMessage (record { version = v; id = id; kind = kind; fields = values; tail = lent; children = x })) same (message_from v id kind values lent row small os cs (sym e)))

pub lawful_exactly : (kind : ParamKind) (values tail : List ℕ) (f : Forest) → AreOctets tail → AreLawful kind values tail f ↔ (first_fault kind values tail f ≡ None)
lawful_exactly kind values tail f os = (lawful_to kind values tail f, lawful_from kind values tail f os)

pub message_exactly : (m : MessageTree) → m.id < 2 ^ 32 → AreOctets m.tail → AllLawful m.children → IsLawfulMessage m ↔ (first_message_fault m.version m.kind m.fields m.tail m.children ≡ None)
message_exactly m small os cs = (message_to m, message_from m.version m.id m.kind m.fields m.tail m.children small os cs)
