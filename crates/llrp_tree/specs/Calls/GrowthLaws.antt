-- How an open tree grows by one part. In each law the innermost node is one of which these fields, tail and children are read, and `at` is the bit up to which the digits are covered.
use Rattle.std.specs.Prelude.{◌≡◌, ℕ, ◌+◌, ◌-◌, ◌*◌, ◌≤◌, Bool, true, List, [], ◌∷◌, ◌++◌, length, drop, Option, Some, unwrap_or}
use Rattle.std.specs.Str.{is_utf8}
use Rattle.llrp_schema.specs.declared.kinds.ParamKind.{ParamKind}
use Rattle.llrp_schema.specs.declared.kinds.Kind.TheVariants.{Parameter}
use Rattle.llrp_schema.specs.declared.kinds.Tail.TheVariants.{Text}
use Rattle.llrp_schema.specs.Schema.{FieldRule, fields_of, groups_of, tail_of}
use Rattle.llrp_tree.specs.declared.TheConstants.{MAX_DEPTH}
use Rattle.llrp_tree.specs.Tree.{Forest, none, and}
use Rattle.llrp_tree.specs.Spelling.{Head, tlv, tv}
use Rattle.llrp_tree.specs.OpenTree.{Begun, kind_of_head, Rest, has_tail, due, in_range, plain_values, is_enough, MayBegin, set}
use Rattle.llrp_tree.specs.FirstFault.{number, tail_at, tail_end, tv_kind, tlv_kind, tlv_octets, first_digit}
use Rattle.llrp_tree.specs.Calls.Standing.{IsAt, begin_node, leading}

-- The next field of the table ends before the node's stop or there, and its value is in its range: the open tree with that field more covers the digits up to the field's end.
abbrev pub FieldGrows : Type 0
FieldGrows = (h : Head) (stop : ℕ) (fields : List ℕ) (outer : List Begun) (ds : List Bool) (at : ℕ) (rule : FieldRule) (after : List FieldRule)
    → IsAt ds (leading h stop fields ∷ outer) at
    → drop (length fields) (fields_of (kind_of_head h)) ≡ rule ∷ after
    → at + rule.width ≤ stop
    → in_range rule (number (drop at ds) 0 rule.width) ≡ true
    → IsAt ds (leading h stop (fields ++ number (drop at ds) 0 rule.width ∷ []) ∷ outer) (at + rule.width)

-- All fields are read, the tail ends before the node's stop or there, and is UTF-8 if it is text: the open tree with the tail covers the digits up to the tail's end.
abbrev pub TailGrows : Type 0
TailGrows = (h : Head) (stop : ℕ) (fields : List ℕ) (outer : List Begun) (ds : List Bool) (at : ℕ)
    → IsAt ds (leading h stop fields ∷ outer) at
    → length fields ≡ length (fields_of (kind_of_head h))
    → has_tail (tail_of (kind_of_head h)) ≡ true
    → tail_end (tail_of (kind_of_head h)) (plain_values (fields_of (kind_of_head h)) fields) at stop (drop at ds) ≤ stop
    → (tail_of (kind_of_head h) ≡ Text → is_utf8 (tail_at (tail_of (kind_of_head h)) (plain_values (fields_of (kind_of_head h)) fields) (stop - at) (drop at ds)) ≡ true)
    → IsAt ds (begin_node h stop fields (Some (tail_at (tail_of (kind_of_head h)) (plain_values (fields_of (kind_of_head h)) fields) (stop - at) (drop at ds))) none ∷ outer) (tail_end (tail_of (kind_of_head h)) (plain_values (fields_of (kind_of_head h)) fields) at stop (drop at ds))

-- A child with type, length and value whose head passes its checks begins: the open tree with that child innermost covers the 32 digits of the head.
abbrev pub TlvOpens : Type 0
TlvOpens = (parent : Begun) (outer : List Begun) (ds : List Bool) (at : ℕ) (kind : ParamKind)
    → IsAt ds (parent ∷ outer) at
    → at + 32 ≤ parent.stop
    → number (drop at ds) 0 6 ≡ 0
    → tlv_kind (set parent) (drop at ds) ≡ Some kind
    → MayBegin parent kind
    → length (parent ∷ outer) ≤ MAX_DEPTH
    → 4 ≤ tlv_octets (drop at ds)
    → at + 8 * tlv_octets (drop at ds) ≤ parent.stop
    → IsAt ds (leading (tlv kind (tlv_octets (drop at ds))) (at + 8 * tlv_octets (drop at ds)) [] ∷ parent ∷ outer) (at + 32)

-- A child with type and value whose type passes its checks begins: the open tree with that child innermost covers the 8 digits of the head, and the child may go as far as its parent.
abbrev pub TvOpens : Type 0
TvOpens = (parent : Begun) (outer : List Begun) (ds : List Bool) (at : ℕ) (kind : ParamKind)
    → IsAt ds (parent ∷ outer) at
    → at + 8 ≤ parent.stop
    → first_digit (drop at ds) ≡ true
    → tv_kind (set parent) (drop at ds) ≡ Some kind
    → MayBegin parent kind
    → length (parent ∷ outer) ≤ MAX_DEPTH
    → IsAt ds (leading (tv kind) parent.stop [] ∷ parent ∷ outer) (at + 8)

-- A parameter with type, length and value that has all its parts and is at its stop is closed: it is the last child of the node around it, and no further digit is covered.
abbrev pub TlvCloses : Type 0
TlvCloses = (h : Head) (stop : ℕ) (parent_fields : List ℕ) (parent_tail : Option (List ℕ)) (before : Forest) (fields : List ℕ) (tail : Option (List ℕ)) (children : Forest) (outer : List Begun) (ds : List Bool) (at : ℕ) (kind : ParamKind) (octets own_stop : ℕ)
    → IsAt ds (begin_node (tlv kind octets) own_stop fields tail children ∷ begin_node h stop parent_fields parent_tail before ∷ outer) at
    → due (begin_node (tlv kind octets) own_stop fields tail children) ≡ Rest
    → at ≡ own_stop
    → is_enough (groups_of (Parameter kind)) children ≡ true
    → IsAt ds (begin_node h stop parent_fields parent_tail (and before kind (plain_values (fields_of (Parameter kind)) fields) (unwrap_or tail []) children) ∷ outer) at

-- A parameter with type and value that has all its parts is closed: it is the last child of the node around it, and no further digit is covered.
abbrev pub TvCloses : Type 0
TvCloses = (h : Head) (stop : ℕ) (parent_fields : List ℕ) (parent_tail : Option (List ℕ)) (before : Forest) (fields : List ℕ) (tail : Option (List ℕ)) (children : Forest) (outer : List Begun) (ds : List Bool) (at : ℕ) (kind : ParamKind) (own_stop : ℕ)
    → IsAt ds (begin_node (tv kind) own_stop fields tail children ∷ begin_node h stop parent_fields parent_tail before ∷ outer) at
    → due (begin_node (tv kind) own_stop fields tail children) ≡ Rest
    → is_enough (groups_of (Parameter kind)) children ≡ true
    → IsAt ds (begin_node h stop parent_fields parent_tail (and before kind (plain_values (fields_of (Parameter kind)) fields) (unwrap_or tail []) children) ∷ outer) at
