-- What the functions that read a frame promise of the open trees in it, or of its fault.
use Rattle.std.specs.Prelude.{◌≡◌, ℕ, ◌+◌, ◌*◌, ◌≤◌, Bool, true, List, [], ◌∷◌, length, drop, Option, Result, MatchResult}
use Rattle.tag_bits.specs.Digits.{digits_of_bytes}
use Rattle.llrp_schema.specs.declared.kinds.ParamKind.{ParamKind}
use Rattle.llrp_schema.specs.declared.kinds.Kind.{Kind}
use Rattle.llrp_schema.specs.declared.kinds.Kind.TheVariants.{Parameter}
use Rattle.llrp_schema.specs.declared.kinds.Tail.{Tail}
use Rattle.llrp_schema.specs.Schema.{FieldRule, fields_of, groups_of, set_of_kind, tail_of}
use Rattle.llrp_tree.specs.declared.fault.FrameErr.{FrameErr}
use Rattle.llrp_tree.specs.declared.decode.children.Child.{Child}
use Rattle.llrp_tree.specs.declared.decode.body.Body.{Body}
use Rattle.llrp_tree.specs.declared.decode.tail.Span.{Span}
use Rattle.llrp_tree.specs.Tree.{Forest, forest}
use Rattle.llrp_tree.specs.Spelling.{Head, spread}
use Rattle.llrp_tree.specs.OpenTree.{root_of, Begun, kind_of_head, due, Rest, in_range}
use Rattle.llrp_tree.specs.FirstFault.{number, field_checks, tail_checks, kind_checks, tlv_checks}
use Rattle.llrp_tree.specs.Calls.OpenTree.{as_read}
use Rattle.llrp_tree.specs.Calls.Standing.{IsAt, begin_node, leading}
use Rattle.llrp_tree.specs.Private.Standing.{Closes, FailsFirst, Tells, KindPasses, TlvPasses, TailSpans}

-- ---- parts, or the first check that they fail

-- the field of a rule at a bit has this value, or the error is the first check that it fails
abbrev pub ReadsField : FieldRule → (at stop : ℕ) → List Bool → Result ℕ FrameErr → Type 0
ReadsField rule at stop rest result = MatchResult result (λ v. (at + rule.width ≤ stop) × (v ≡ number rest 0 rule.width) × (in_range rule v ≡ true)) (FailsFirst (field_checks rule at stop rest))

-- the tail of a form at an octet has this span, or the error is the first check that it fails
abbrev pub FindsTail : Tail → List ℕ → (at stop : ℕ) → List Bool → Result Span FrameErr → Type 0
FindsTail form fields at stop rest result = MatchResult result (λ s. TailSpans form fields (8 * at) (8 * stop) rest (8 * s.from) (8 * s.to)) (FailsFirst (tail_checks form fields (8 * at) (8 * stop) rest))

-- a child of this kind may begin in a parent after these children, or the error is the first check that it fails
abbrev pub ChecksKind : Option ParamKind → Kind → Forest → (level at type_at : ℕ) → Result ParamKind FrameErr → Type 0
ChecksKind found parent children level at type_at result = MatchResult result (KindPasses found (groups_of parent) children level) (FailsFirst (kind_checks found (groups_of parent) children level at type_at))

-- the head of a child with type, length and value at an octet has this kind and length, or the error is the first check that it fails
abbrev pub ReadsTlvHead : List ℕ → Kind → Forest → (level at stop : ℕ) → Result (ParamKind × ℕ) FrameErr → Type 0
ReadsTlvHead bytes parent children level at stop result =
    let rest = drop (8 * at) (digits_of_bytes bytes) in
    MatchResult result (λ x. TlvPasses (set_of_kind parent) (groups_of parent) children level (8 * at) (8 * stop) rest x.0 x.1)
    (FailsFirst (tlv_checks (set_of_kind parent) (groups_of parent) children level (8 * at) (8 * stop) rest))

-- ---- open trees, or the fault of a frame

-- an open tree with this innermost node covers the octets up to this one
abbrev pub StandsAt : List ℕ → Begun → List Begun → ℕ → Type 0
StandsAt bytes b outer octet = IsAt (digits_of_bytes bytes) (b ∷ outer) (8 * octet)

-- this holds of the value, or the error is the fault of a frame in which an open tree has these nodes
abbrev pub HoldsOrTells : {A : Type 0} → List ℕ → Head → List Begun → Result A FrameErr → (A → Type 0) → Type 0
HoldsOrTells bytes h outer result holds = MatchResult result holds (Tells (root_of h outer) (digits_of_bytes bytes))

-- a begun node with these fields, this tail and these children
abbrev pub node_of : Head → ℕ → Kind → (values tail : List ℕ) → Forest → Begun
node_of h stop kind values tail children = begin_node h (8 * stop) (spread (fields_of kind) values) (as_read (tail_of kind) tail) children

-- a begun node with these fields
abbrev pub fields_read : Head → ℕ → Kind → List ℕ → Begun
fields_read h stop kind values = leading h (8 * stop) (spread (fields_of kind) values)

-- wherever a node of the kind is innermost with these fields, this holds after the reading, or the error is the fault
abbrev pub ReadsOn : {A : Type 0} → List ℕ → Kind → (stop : ℕ) → List ℕ → (from : ℕ) → Result A FrameErr → (Head → List Begun → A → Type 0) → Type 0
ReadsOn bytes kind stop fields from result holds = (h : Head) (outer : List Begun) → kind_of_head h ≡ kind → StandsAt bytes (leading h (8 * stop) fields) outer from → HoldsOrTells bytes h outer result (holds h outer)

-- wherever a node of the kind begins this many levels below the message, it has all these parts after the reading, or the error is the fault
abbrev pub ReadsBody : List ℕ → Kind → (level from stop : ℕ) → List ℕ → Result Body FrameErr → Type 0
ReadsBody bytes kind level from stop values result = (h : Head) (outer : List Begun) → kind_of_head h ≡ kind → length outer ≡ level → StandsAt bytes (leading h (8 * stop) []) outer from
    → HoldsOrTells bytes h outer result (λ x. Closes (digits_of_bytes bytes) (node_of h stop kind values x.tail (forest x.children)) outer (8 * x.at))

-- ---- children

-- a child begins inside these nodes
abbrev pub HasBegun : List ℕ → List Begun → Child → Type 0
HasBegun bytes outer child = (h : Head) × (kind_of_head h ≡ Parameter child.kind) × StandsAt bytes (leading h (8 * child.stop) []) outer child.at

-- wherever a node of the kind is innermost with these children, this many levels below the message, a child begins in it, or the error is the fault
abbrev pub BeginsChild : List ℕ → Kind → Forest → (level at stop : ℕ) → Result Child FrameErr → Type 0
BeginsChild bytes parent children level at stop result = (h : Head) (outer : List Begun) (fields : List ℕ) (tail : Option (List ℕ)) → kind_of_head h ≡ parent → length outer ≡ level
    → due (begin_node h (8 * stop) fields tail children) ≡ Rest
    → StandsAt bytes (begin_node h (8 * stop) fields tail children) outer at
    → HoldsOrTells bytes h outer result (HasBegun bytes (begin_node h (8 * stop) fields tail children ∷ outer))

-- where the child begins in a parent, the parent has these children after the reading, or the error is the fault
abbrev pub ClosesChild : List ℕ → Child → Head → Begun → List Begun → Forest → Result ℕ FrameErr → Type 0
ClosesChild bytes child h parent outer after result = StandsAt bytes (leading h (8 * child.stop) []) (parent ∷ outer) child.at
    → HoldsOrTells bytes parent.head outer result (StandsAt bytes (begin_node parent.head parent.stop parent.fields parent.tail after) outer)

-- the same of every parent with these children before it
abbrev pub AddsChild : List ℕ → Child → (before after : Forest) → Result ℕ FrameErr → Type 0
AddsChild bytes child before after result = (h : Head) (parent : Begun) (outer : List Begun) → kind_of_head h ≡ Parameter child.kind → parent.children ≡ before
    → ClosesChild bytes child h parent outer after result

-- the same where the child is this many levels below the message
abbrev pub AddsChildAt : ℕ → List ℕ → Child → (before after : Forest) → Result ℕ FrameErr → Type 0
AddsChildAt level bytes child before after result = (h : Head) (parent : Begun) (outer : List Begun) → kind_of_head h ≡ Parameter child.kind → parent.children ≡ before → length (parent ∷ outer) ≡ level
    → ClosesChild bytes child h parent outer after result
