-- What the profile has of a lawful message is lawful.
use Rattle.std.proofs.Common.{◌≡◌, ℕ, Bool, true, false, List, [], refl, subst}
use Rattle.std.specs.Prelude.{IfSome, Option, Some, None, is_none, if◌then◌else◌, ◌==◌}
use Rattle.llrp_schema.specs.declared.kinds.MsgKind.{MsgKind}
use Rattle.llrp_schema.specs.declared.kinds.ParamKind.{ParamKind}
use Rattle.llrp_schema.specs.declared.kinds.ParamKind.TheVariants.{RoSpec}
use Rattle.llrp_schema.specs.declared.kinds.Kind.TheVariants.{Message}
use Rattle.llrp_schema.specs.declared.kinds.KindSet.TheVariants.{Profile}
use Rattle.llrp_schema.specs.Schema.{GroupRule, groups_of, has_place, key_of, message_in, number_of}
use Rattle.llrp_schema.proofs.TableLaws.{message_found_in}
use Rattle.llrp_tree.specs.declared.node.NodeFault.{NodeFault}
use Rattle.llrp_tree.specs.Tree.{Forest, none, and, Tree, MessageTree}
use Rattle.llrp_tree.specs.Lawful.{AllLawful, AreOctets, IsLawfulTree, IsLawfulMessage}
use Rattle.llrp_tree.specs.Checks.{first_fault, first_message_fault}
use Rattle.llrp_tree.proofs.LawLemmas.{lawful_from, message_from}
use Rattle.llrp_endpoints.specs.Heard.{add_where, else_kept, groups_where, lawful_where, message_where, own_kind, own_message, own_row, own_where, tree_where}
use Rattle.llrp_endpoints.specs.Calls.HeardLaws.{HeardIsLawful, IsOwnPart}
use Rattle.llrp_endpoints.proofs.PlanLemmas.{kept_parts, kept_parts_lawful}

-- ---- parameters

where_lawful : (kind : ParamKind) (fields tail : List ℕ) (children : Forest) → AreOctets tail → AllLawful children → IfSome (lawful_where kind fields tail children) IsLawfulTree
where_lawful kind fields tail children octets below = go (first_fault kind fields tail children) refl
  where
    go : (fault : Option NodeFault) → first_fault kind fields tail children ≡ fault → IfSome (if is_none fault then Some (record { kind = kind; fields = fields; tail = tail; children = children }) else None) IsLawfulTree
    go (Some fault) e = tt
    go None e = (lawful_from kind fields tail children octets e, below)

kept_is_lawful : (is_rospec : Bool) (fields : List ℕ) → IfSome (if is_rospec then lawful_where RoSpec fields [] kept_parts else None) IsLawfulTree
kept_is_lawful true fields = where_lawful RoSpec fields [] kept_parts tt kept_parts_lawful
kept_is_lawful false fields = tt

else_lawful : (kind : ParamKind) (fields : List ℕ) (t : Option Tree) → IfSome t IsLawfulTree → IfSome (else_kept kind fields t) IsLawfulTree
else_lawful kind fields None one = kept_is_lawful (key_of RoSpec == key_of kind) fields
else_lawful kind fields (Some t) one = one

placed_lawful : (placed : Bool) (kind : ParamKind) (fields tail : List ℕ) (children : Forest) → AreOctets tail → AllLawful children → IfSome (if placed then else_kept kind fields (lawful_where kind fields tail children) else None) IsLawfulTree
placed_lawful true kind fields tail children octets below = else_lawful kind fields (lawful_where kind fields tail children) (where_lawful kind fields tail children octets below)
placed_lawful false kind fields tail children octets below = tt

tree_lawful : (groups : List GroupRule) (kind : Option ParamKind) (fields tail : List ℕ) (children : Forest) → AreOctets tail → AllLawful children → IfSome (tree_where groups kind fields tail children) IsLawfulTree
tree_lawful groups None fields tail children octets below = tt
tree_lawful groups (Some kind) fields tail children octets below = placed_lawful (has_place groups kind) kind fields tail children octets below

add_lawful : (before : Forest) (t : Option Tree) → AllLawful before → IfSome t IsLawfulTree → AllLawful (add_where before t)
add_lawful before None all one = all
add_lawful before (Some t) all one = (all, one.0, one.1)

row_lawful : (groups : List GroupRule) (row : Forest) → AllLawful row → AllLawful (own_row groups row)
unfolding own_row
row_lawful groups none all = tt
row_lawful groups (and before kind fields tail children) all =
    let below = row_lawful (groups_where (own_kind kind)) children all.2 in
    add_lawful (own_row groups before) (tree_where groups (own_kind kind) fields tail (own_row (groups_where (own_kind kind)) children)) (row_lawful groups before all.0)
    (tree_lawful groups (own_kind kind) fields tail (own_row (groups_where (own_kind kind)) children) all.1.obeys.bytes below)

-- ---- messages

abbrev of_row : MessageTree → MsgKind → MessageTree
of_row m kind = record { version = m.version; id = m.id; kind = kind; fields = m.fields; tail = []; children = own_row (groups_of (Message kind)) m.children }

part_of : (m own : MessageTree) (kind : MsgKind) → IsLawfulMessage m → message_in Profile (number_of (Message m.kind)) ≡ Some kind → message_where (of_row m kind) ≡ Some own → IsOwnPart m own
part_of m own kind lawful found e = go (first_message_fault m.version kind m.fields [] (own_row (groups_of (Message kind)) m.children)) refl e
  where
    go : (fault : Option NodeFault) → first_message_fault m.version kind m.fields [] (own_row (groups_of (Message kind)) m.children) ≡ fault → (if is_none fault then Some (of_row m kind) else None) ≡ Some own → IsOwnPart m own
    go (Some fault) none_fails e = cc
    go None none_fails e =
        let same : of_row m kind ≡ own = cc in
        let known = message_found_in Profile (number_of (Message m.kind)) kind found in
        subst (λ (x : MessageTree). IsOwnPart m x) same
        (record {
          of_the_profile = known.0;
          same_type = known.1;
          same_version = refl;
          same_id = refl;
          same_fields = refl;
          lawful = message_from m.version m.id kind m.fields [] (own_row (groups_of (Message kind)) m.children) lawful.id tt (row_lawful (groups_of (Message kind)) m.children lawful.children) none_fails;
        })

where_part : (m own : MessageTree) (kind : Option MsgKind) → IsLawfulMessage m → message_in Profile (number_of (Message m.kind)) ≡ kind → own_where kind m ≡ Some own → IsOwnPart m own
where_part m own None lawful found e = cc
where_part m own (Some kind) lawful found e = part_of m own kind lawful found e

pub heard_is_lawful : HeardIsLawful
unfolding own_message
heard_is_lawful m own lawful e = where_part m own (message_in Profile (number_of (Message m.kind))) lawful refl e
