-- Of a table of ROSpecs of the whole standard each ROSpec is heard, with its fields.
use Rattle.std.proofs.Common.{◌≡◌, ℕ, ◌==◌, ◌⊎◌, inl, inr, ◌||◌, List, [], ◌∷◌, ◌++◌, append-nil, Bool, true, false, cond, Option, Some, None, filter, map, refl, sym, ap, ◌∙◌, subst, eqb-true}
use Rattle.std.specs.Prelude.{if◌then◌else◌, is_none}
use Rattle.std.proofs.lemmas.List.{map-append}
use Rattle.std.proofs.lemmas.List.Elements.{filter-append}
use Rattle.llrp_schema.specs.declared.kinds.MsgKind.{MsgKind}
use Rattle.llrp_schema.specs.declared.kinds.MsgKind.TheVariants.{GetRoSpecsResponse, WholeGetRoSpecsResponse}
use Rattle.llrp_schema.specs.declared.kinds.ParamKind.{ParamKind}
use Rattle.llrp_schema.specs.declared.kinds.ParamKind.TheVariants.{RoSpec, LlrpStatus, WholeRoSpec, WholeLlrpStatus}
use Rattle.llrp_schema.specs.declared.kinds.Kind.TheVariants.{Message, Parameter}
use Rattle.llrp_schema.specs.declared.kinds.KindSet.TheVariants.{Profile}
use Rattle.llrp_schema.specs.Schema.{number_of, fields_of, plain_fields_of, groups_of, key_of, is_tv, set_of_kind, rule_of, message_rule, param_rule, message_kinds, param_kinds, message_in, tlv_in, tv_in, has_place}
use Rattle.llrp_schema.proofs.TableLaws.{param_keys}
use Rattle.llrp_tree.specs.declared.node.NodeFault.{NodeFault}
use Rattle.llrp_tree.specs.Tree.{Forest, none, and, Tree, MessageTree, trees}
use Rattle.llrp_tree.specs.Lawful.{AreInRange, ArePlaced, AllLawful}
use Rattle.llrp_tree.specs.Checks.{first_fault, first_message_fault}
use Rattle.llrp_session.specs.RoSpec.{is_kind}
use Rattle.llrp_endpoints.specs.Heard.{add_where, else_kept, groups_where, kept_where, lawful_where, own_kind, own_message, own_row, own_where, tree_where}
use Rattle.llrp_endpoints.specs.Calls.HeardLaws.{EachRoSpecIsHeard, fields_in}
use Rattle.llrp_endpoints.proofs.PlanLemmas.{kept_lawful, kept_parts}
use Rattle.llrp_endpoints.proofs.ProfileHeard.{lawful_where_is}

-- ---- the fields of one more parameter

abbrev fields_of_one : ParamKind → Tree → List (List ℕ)
fields_of_one kind t = map (λ (t : Tree). t.fields) (filter (is_kind kind) (t ∷ []))

one_more : (kind : ParamKind) (before : Forest) (t : Tree) → fields_in kind (and before t.kind t.fields t.tail t.children) ≡ fields_in kind before ++ fields_of_one kind t
one_more kind before t = ap (map (λ (t : Tree). t.fields)) (filter-append (is_kind kind) (trees before) (t ∷ [])) ∙ map-append (λ (t : Tree). t.fields) (filter (is_kind kind) (trees before)) (filter (is_kind kind) (t ∷ []))

is_of : (kind : ParamKind) (t : Tree) → is_kind kind t ≡ true → fields_of_one kind t ≡ t.fields ∷ []
is_of kind t e = ap (λ b. map (λ (t : Tree). t.fields) (cond b (t ∷ []) [])) e

is_other : (kind : ParamKind) (t : Tree) → is_kind kind t ≡ false → fields_of_one kind t ≡ []
is_other kind t e = ap (λ b. map (λ (t : Tree). t.fields) (cond b (t ∷ []) [])) e

-- ---- a ROSpec

pub same_ranges : (fields : List ℕ) → AreInRange (plain_fields_of (Parameter WholeRoSpec)) fields → AreInRange (plain_fields_of (Parameter RoSpec)) fields
unfolding fields_of rule_of param_rule
same_ranges fields h = h

-- a ROSpec with these fields
record IsRoSpec (fields : List ℕ) (o : Option Tree) : Type 0 where
  tree : Tree
  is : o ≡ Some tree
  kind : tree.kind ≡ RoSpec
  fields_are : tree.fields ≡ fields

pub kept_is : (fields : List ℕ) → AreInRange (plain_fields_of (Parameter RoSpec)) fields → kept_where RoSpec fields ≡ Some (record { kind = RoSpec; fields = fields; tail = []; children = kept_parts })
unfolding key_of number_of set_of_kind rule_of param_rule
kept_is fields ranges = lawful_where_is RoSpec fields [] kept_parts (kept_lawful fields ranges)

rospec_heard : (fields tail : List ℕ) (children : Forest) → AreInRange (plain_fields_of (Parameter RoSpec)) fields → IsRoSpec fields (else_kept RoSpec fields (lawful_where RoSpec fields tail children))
rospec_heard fields tail children ranges = go (first_fault RoSpec fields tail children)
  where
    go : (fault : Option NodeFault) → IsRoSpec fields (else_kept RoSpec fields (if is_none fault then Some (record { kind = RoSpec; fields = fields; tail = tail; children = children }) else None))
    go (Some fault) = record { tree = record { kind = RoSpec; fields = fields; tail = []; children = kept_parts }; is = kept_is fields ranges; kind = refl; fields_are = refl }
    go None = record { tree = record { kind = RoSpec; fields = fields; tail = tail; children = children }; is = refl; kind = refl; fields_are = refl }

is_rospec : is_kind RoSpec (record { kind = RoSpec; fields = []; tail = []; children = none }) ≡ true
unfolding key_of number_of set_of_kind rule_of param_rule
is_rospec = refl

is_whole_rospec : (key_of WholeRoSpec == key_of WholeRoSpec) ≡ true
unfolding key_of number_of set_of_kind rule_of param_rule
is_whole_rospec = refl

adds_rospec : (before : Forest) (fields : List ℕ) (o : Option Tree) → IsRoSpec fields o → fields_in RoSpec (add_where before o) ≡ fields_in RoSpec before ++ fields ∷ []
adds_rospec before fields o h =
    let here : is_kind RoSpec h.tree ≡ true = ap (λ k. key_of RoSpec == key_of k) h.kind ∙ is_rospec in
    ap (λ o. fields_in RoSpec (add_where before o)) h.is ∙ one_more RoSpec before h.tree ∙ ap (λ fs. fields_in RoSpec before ++ fs) (is_of RoSpec h.tree here) ∙ ap (λ fs. fields_in RoSpec before ++ fs ∷ []) h.fields_are

-- ---- a status

is_no_rospec : (key_of RoSpec == key_of LlrpStatus) ≡ false
unfolding key_of number_of set_of_kind rule_of param_rule
is_no_rospec = refl

is_no_whole_rospec : (key_of WholeRoSpec == key_of WholeLlrpStatus) ≡ false
unfolding key_of number_of set_of_kind rule_of param_rule
is_no_whole_rospec = refl

-- no ROSpec is added
adds_status : (before : Forest) (fields tail : List ℕ) (children : Forest) → fields_in RoSpec (add_where before (else_kept LlrpStatus fields (lawful_where LlrpStatus fields tail children))) ≡ fields_in RoSpec before
adds_status before fields tail children = go (first_fault LlrpStatus fields tail children)
  where
    t : Tree
    t = record { kind = LlrpStatus; fields = fields; tail = tail; children = children }

    go : (fault : Option NodeFault) → fields_in RoSpec (add_where before (else_kept LlrpStatus fields (if is_none fault then Some t else None))) ≡ fields_in RoSpec before
    go (Some fault) = ap (λ b. fields_in RoSpec (add_where before (if b then lawful_where RoSpec fields [] kept_parts else None))) is_no_rospec
    go None = one_more RoSpec before t ∙ ap (λ fs. fields_in RoSpec before ++ fs) (is_other RoSpec t is_no_rospec) ∙ append-nil (fields_in RoSpec before)

-- ---- a row

-- the kinds of a table's parameters
record Owns (whole own : ParamKind) : Type 0 where
  is : own_kind whole ≡ Some own
  placed : has_place (groups_of (Message GetRoSpecsResponse)) own ≡ true

owns_rospec : Owns WholeRoSpec RoSpec
unfolding number_of set_of_kind rule_of param_rule message_rule param_kinds is_tv tlv_in tv_in groups_of key_of
owns_rospec = record { is = refl; placed = refl }

owns_status : Owns WholeLlrpStatus LlrpStatus
unfolding number_of set_of_kind rule_of param_rule message_rule param_kinds is_tv tlv_in tv_in groups_of key_of
owns_status = record { is = refl; placed = refl }

-- what is heard of one
heard_as : (whole own : ParamKind) (fields tail : List ℕ) (children : Forest) → Owns whole own
    → tree_where (groups_of (Message GetRoSpecsResponse)) (own_kind whole) fields tail (own_row (groups_where (own_kind whole)) children) ≡ else_kept own fields (lawful_where own fields tail (own_row (groups_of (Parameter own)) children))
heard_as whole own fields tail children o =
    ap (λ k. tree_where (groups_of (Message GetRoSpecsResponse)) k fields tail (own_row (groups_where k) children)) o.is
    ∙ ap (λ b. if b then else_kept own fields (lawful_where own fields tail (own_row (groups_of (Parameter own)) children)) else None) o.placed

either : (a b : Bool) → (a || b) ≡ true → (a ≡ true) ⊎ (b ≡ true)
either true b e = inl refl
either false b e = inr e

table_groups : (kind : ParamKind) → has_place (groups_of (Message WholeGetRoSpecsResponse)) kind ≡ (((key_of WholeLlrpStatus == key_of kind) || false) || (((key_of WholeRoSpec == key_of kind) || false) || false))
unfolding groups_of rule_of message_rule
table_groups kind = refl

in_table : (kind : ParamKind) → has_place (groups_of (Message WholeGetRoSpecsResponse)) kind ≡ true → (kind ≡ WholeLlrpStatus) ⊎ (kind ≡ WholeRoSpec)
in_table kind placed = first (either ((key_of WholeLlrpStatus == key_of kind) || false) (((key_of WholeRoSpec == key_of kind) || false) || false) (sym (table_groups kind) ∙ placed))
  where
    same : (k : ParamKind) → ((key_of k == key_of kind) || false) ≡ true → kind ≡ k
    same k e = sym (param_keys k kind (eqb-true (key_of k) (key_of kind) (one (key_of k == key_of kind) e)))
      where
        one : (a : Bool) → (a || false) ≡ true → a ≡ true
        one true e = refl
        one false e = cc e

    last : (((key_of WholeRoSpec == key_of kind) || false) ≡ true) ⊎ (false ≡ true) → kind ≡ WholeRoSpec
    last (inl e) = same WholeRoSpec e
    last (inr e) = cc e

    first : (((key_of WholeLlrpStatus == key_of kind) || false) ≡ true) ⊎ ((((key_of WholeRoSpec == key_of kind) || false) || false) ≡ true) → (kind ≡ WholeLlrpStatus) ⊎ (kind ≡ WholeRoSpec)
    first (inl e) = inl (same WholeLlrpStatus e)
    first (inr e) = inr (last (either ((key_of WholeRoSpec == key_of kind) || false) false e))

-- what is heard of a row with one more parameter, of a known kind
abbrev GoesOn : Forest → ParamKind → List ℕ → List ℕ → Forest → Type 0
GoesOn before kind fields tail children =
    fields_in RoSpec (add_where (own_row (groups_of (Message GetRoSpecsResponse)) before) (tree_where (groups_of (Message GetRoSpecsResponse)) (own_kind kind) fields tail (own_row (groups_where (own_kind kind)) children)))
    ≡ fields_in WholeRoSpec (and before kind fields tail children)

goes_on : (before : Forest) (kind : ParamKind) (fields tail : List ℕ) (children : Forest) → (kind ≡ WholeLlrpStatus) ⊎ (kind ≡ WholeRoSpec) → AreInRange (plain_fields_of (Parameter kind)) fields
    → fields_in RoSpec (own_row (groups_of (Message GetRoSpecsResponse)) before) ≡ fields_in WholeRoSpec before → GoesOn before kind fields tail children
goes_on before kind fields tail children (inl is) ranges so =
    let row = own_row (groups_of (Message GetRoSpecsResponse)) before in
    let t : Tree = record { kind = WholeLlrpStatus; fields = fields; tail = tail; children = children } in
    subst (λ (k : ParamKind). GoesOn before k fields tail children) (sym is)
    (ap (λ o. fields_in RoSpec (add_where row o)) (heard_as WholeLlrpStatus LlrpStatus fields tail children owns_status)
    ∙ adds_status row fields tail (own_row (groups_of (Parameter LlrpStatus)) children) ∙ so
    ∙ sym (one_more WholeRoSpec before t ∙ ap (λ fs. fields_in WholeRoSpec before ++ fs) (is_other WholeRoSpec t is_no_whole_rospec) ∙ append-nil (fields_in WholeRoSpec before)))
goes_on before kind fields tail children (inr is) ranges so =
    let row = own_row (groups_of (Message GetRoSpecsResponse)) before in
    let t : Tree = record { kind = WholeRoSpec; fields = fields; tail = tail; children = children } in
    let within = same_ranges fields (subst (λ (k : ParamKind). AreInRange (plain_fields_of (Parameter k)) fields) is ranges) in
    subst (λ (k : ParamKind). GoesOn before k fields tail children) (sym is)
    (ap (λ o. fields_in RoSpec (add_where row o)) (heard_as WholeRoSpec RoSpec fields tail children owns_rospec)
    ∙ adds_rospec row fields _ (rospec_heard fields tail (own_row (groups_of (Parameter RoSpec)) children) within)
    ∙ ap (λ fs. fs ++ fields ∷ []) so
    ∙ sym (one_more WholeRoSpec before t ∙ ap (λ fs. fields_in WholeRoSpec before ++ fs) (is_of WholeRoSpec t is_whole_rospec)))

row_heard : (row : Forest) → ArePlaced (groups_of (Message WholeGetRoSpecsResponse)) row → AllLawful row → fields_in RoSpec (own_row (groups_of (Message GetRoSpecsResponse)) row) ≡ fields_in WholeRoSpec row
unfolding own_row ArePlaced
row_heard none placed lawful = refl
row_heard (and before kind fields tail children) placed lawful =
    goes_on before kind fields tail children (in_table kind placed.1) lawful.1.obeys.ranges (row_heard before placed.0 lawful.0)

-- ---- the message

is_table : message_in Profile (number_of (Message WholeGetRoSpecsResponse)) ≡ Some GetRoSpecsResponse
unfolding message_in number_of rule_of message_rule message_kinds
is_table = refl

own_children : (m own : MessageTree) → own_where (Some GetRoSpecsResponse) m ≡ Some own → own.children ≡ own_row (groups_of (Message GetRoSpecsResponse)) m.children
own_children m own e = go (first_message_fault m.version GetRoSpecsResponse m.fields [] (own_row (groups_of (Message GetRoSpecsResponse)) m.children)) e
  where
    part : MessageTree
    part = record { version = m.version; id = m.id; kind = GetRoSpecsResponse; fields = m.fields; tail = []; children = own_row (groups_of (Message GetRoSpecsResponse)) m.children }

    go : (fault : Option NodeFault) → (if is_none fault then Some part else None) ≡ Some own → own.children ≡ own_row (groups_of (Message GetRoSpecsResponse)) m.children
    go (Some fault) e = cc e
    go None e = let same : part ≡ own = cc in ap (λ (x : MessageTree). x.children) (sym same)

pub each_rospec_is_heard : EachRoSpecIsHeard
unfolding own_message
each_rospec_is_heard m own lawful is e =
    let found : message_in Profile (number_of (Message m.kind)) ≡ Some GetRoSpecsResponse = ap (λ (k : MsgKind). message_in Profile (number_of (Message k))) is ∙ is_table in
    let children = own_children m own (ap (λ (k : Option MsgKind). own_where k m) (sym found) ∙ e) in
    let placed = subst (λ (k : MsgKind). ArePlaced (groups_of (Message k)) m.children) is lawful.obeys.placed in
    ap (fields_in RoSpec) children ∙ row_heard m.children placed lawful.children
