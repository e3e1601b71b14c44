-- Beside Calls/Standing: words of private functions.
use Rattle.llrp_schema.specs.declared.kinds.KindSet.{KindSet}
use Rattle.llrp_schema.specs.declared.kinds.KindSet.TheVariants.{Profile}
use Rattle.std.specs.Prelude.{◌≡◌, ℕ, ◌+◌, ◌-◌, ◌*◌, ◌≤◌, Bool, true, false, nat_le, List, [], ◌∷◌, length, drop, Option, Some}
use Rattle.std.specs.Str.{is_utf8}
use Rattle.tag_bits.specs.Digits.{digits_of_bytes}
use Rattle.llrp_schema.specs.declared.kinds.MsgKind.{MsgKind}
use Rattle.llrp_schema.specs.declared.kinds.ParamKind.{ParamKind}
use Rattle.llrp_schema.specs.declared.kinds.Kind.{Kind}
use Rattle.llrp_schema.specs.declared.kinds.Kind.TheVariants.{Message, Parameter}
use Rattle.llrp_schema.specs.declared.kinds.Tail.{Tail}
use Rattle.llrp_schema.specs.declared.kinds.Tail.TheVariants.{Text}
use Rattle.llrp_schema.specs.Schema.{GroupRule, is_tv}
use Rattle.llrp_tree.specs.declared.TheConstants.{MAX_DEPTH}
use Rattle.llrp_tree.specs.declared.fault.Reason.{Reason}
use Rattle.llrp_tree.specs.declared.fault.FrameErr.{FrameErr}
use Rattle.llrp_tree.specs.declared.fault.FrameErr.TheVariants.{Memory, Bad}
use Rattle.llrp_tree.specs.Tree.{Forest}
use Rattle.llrp_tree.specs.Lawful.{has_place, count_octets}
use Rattle.llrp_tree.specs.Spelling.{Head}
use Rattle.llrp_tree.specs.OpenTree.{root_set, Begun, kind_of_head, groups, due, Rest, takes_more, is_enough}
use Rattle.llrp_tree.specs.FirstFault.{number, tail_at, tail_end, tlv_kind, tlv_octets, Check, first_failing, next_fault, has_ended}
use Rattle.llrp_tree.specs.Calls.Standing.{IsAt, leading, HeaderSaysIn}

-- Somewhere in the digits the next checks of an open tree fail, first so.
pub record IsFaultOf (p : KindSet) (ds : List Bool) (bit : ℕ) (reason : Reason) : Type 0 where
  pub tree : List Begun
  pub at : ℕ
  pub stands : IsAt ds tree at
  pub fails : next_fault tree (drop at ds) ≡ Some (bit, reason)
  pub root : root_set tree ≡ p

-- The innermost node has all its parts, and is at its stop.
pub record Closes (ds : List Bool) (b : Begun) (outer : List Begun) (at : ℕ) : Type 0 where
  pub stands : IsAt ds (b ∷ outer) at
  pub ready : due b ≡ Rest
  pub over : has_ended b.head (nat_le b.stop at) ≡ true
  pub enough : is_enough (groups b) b.children ≡ true

-- the same of the profile
abbrev pub HeaderSays : ℕ → List Bool → ℕ → MsgKind → ℕ → ℕ → Type 0
HeaderSays limit ds version kind octets id = HeaderSaysIn Profile limit ds version kind octets id

-- the error is the first of the checks to fail
abbrev pub FailsFirst : List Check → FrameErr → Type 0
FailsFirst checks Memory = ⊥
FailsFirst checks (Bad fault) = first_failing checks ≡ Some (fault.bit, fault.reason)

-- the error is the fault of the digits, or says that memory ran out
abbrev pub Tells : KindSet → List Bool → FrameErr → Type 0
Tells p ds Memory = Unit {0}
Tells p ds (Bad fault) = IsFaultOf p ds fault.bit fault.reason

-- A node of the kind begins at the octet, this many levels below the message.
pub record Begins (bytes : List ℕ) (kind : Kind) (level from stop : ℕ) : Type 0 where
  pub head : Head
  pub outer : List Begun
  pub of_kind : kind_of_head head ≡ kind
  pub at_level : length outer ≡ level
  pub stands : IsAt (digits_of_bytes bytes) (leading head (8 * stop) [] ∷ outer) (8 * from)

-- A child of the kind begins at the octet after these siblings, this many levels below the message.
pub record BeginsBehind (bytes : List ℕ) (kind : ParamKind) (siblings : Forest) (level from stop : ℕ) : Type 0 where
  pub head : Head
  pub parent : Begun
  pub outer : List Begun
  pub of_kind : kind_of_head head ≡ Parameter kind
  pub behind : parent.children ≡ siblings
  pub at_level : length (parent ∷ outer) ≡ level
  pub stands : IsAt (digits_of_bytes bytes) (leading head (8 * stop) [] ∷ parent ∷ outer) (8 * from)

-- A child's kind passes its checks.
pub record KindPasses (found : Option ParamKind) (groups : List GroupRule) (children : Forest) (level : ℕ) (kind : ParamKind) : Type 0 where
  pub is : found ≡ Some kind
  pub has : has_place groups kind ≡ true
  pub takes : takes_more groups kind children ≡ true
  pub deep : level ≤ MAX_DEPTH

-- A head of a child with type, length and value passes its checks.
pub record TlvPasses (p : KindSet) (groups : List GroupRule) (children : Forest) (level at stop : ℕ) (rest : List Bool) (kind : ParamKind) (octets : ℕ) : Type 0 where
  pub room : at + 32 ≤ stop
  pub zeros : number rest 0 6 ≡ 0
  pub placed : KindPasses (tlv_kind p rest) groups children level kind
  pub octets_are : octets ≡ tlv_octets rest
  pub least : 4 ≤ octets
  pub most : at + 8 * octets ≤ stop

-- whether a node ends after its field
abbrev pub is_tv_kind : Kind → Bool
is_tv_kind (Message kind) = false
is_tv_kind (Parameter kind) = is_tv kind

-- A tail's octets go from one bit to another, and it passes its checks.
pub record TailSpans (form : Tail) (fields : List ℕ) (at stop : ℕ) (rest : List Bool) (from to : ℕ) : Type 0 where
  pub begins : from ≡ at + 8 * count_octets form
  pub ends : to ≡ tail_end form fields at stop rest
  pub within : to ≤ stop
  pub text : form ≡ Text → is_utf8 (tail_at form fields (stop - at) rest) ≡ true
