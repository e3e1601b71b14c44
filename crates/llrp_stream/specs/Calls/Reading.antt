-- What the engine keeps of a front of a frame.
use Rattle.std.specs.Prelude.{Option, Some, None, get_or, ◌≡◌, ◌≢◌, ℕ, ◌+◌, ◌-◌, ◌*◌, ◌<◌, ◌≤◌, Bool, true, List, [], ◌∷◌, ◌++◌, length, drop, reverse, min}
use Rattle.tag_bits.specs.Digits.{digits_of_bytes}
use Rattle.llrp_schema.specs.Schema.{GroupRule}
use Rattle.std.specs.Int.{bit_at}
use Rattle.llrp_tree.specs.declared.TheConstants.{MAX_LIMIT}
use Rattle.llrp_tree.specs.declared.fault.Reason.{Reason}
use Rattle.llrp_tree.specs.declared.fault.Reason.TheVariants.{Utf8}
use Rattle.llrp_tree.specs.Tree.{Forest, none, and}
use Rattle.llrp_schema.specs.declared.kinds.Kind.{Kind}
use Rattle.llrp_schema.specs.declared.kinds.Kind.TheVariants.{Message, Parameter}
use Rattle.llrp_tree.specs.FirstFault.{octets_at, tail_length}
use Rattle.llrp_tree.specs.Lawful.{count, count_octets, first}
use Rattle.llrp_tree.specs.OpenTree.{Begun, kind_of_head, groups, rules, form, has_tail, plain_values, due, Rest}
use Rattle.llrp_tree.specs.Calls.Standing.{begin_node, leading}
use Rattle.llrp_stream.specs.declared.engine.stack.StackNode.{StackNode}
use Rattle.llrp_stream.specs.declared.engine.listener.Stopped.{Stopped}
use Rattle.llrp_stream.specs.declared.engine.body_reader.Stage.{Stage}
use Rattle.llrp_stream.specs.declared.engine.body_reader.Stage.TheVariants.{Leading, Tail, Children}
use Rattle.llrp_stream.specs.declared.engine.body_reader.BodyReader.{BodyReader}
use Rattle.llrp_stream.specs.Calls.Front.{Reaches}
use Rattle.llrp_stream.specs.Calls.Received.{AreWhole}

-- a row of parameters with the one that has begun after it; of that one only the kind is known
abbrev pub with_begun : Forest → Kind → Forest
with_begun before (Message kind) = before
with_begun before (Parameter kind) = and before kind [] [] none

-- bit k is set exactly if a child of the group with index k is there
abbrev pub AreSeen : List GroupRule → Forest → ℕ → Type 0
AreSeen groups children seen = (k : ℕ) (d : GroupRule) → k < length groups → bit_at seen k ≡ min 1 (count (get_or groups k d) children)

-- A level is what the engine keeps of a begun node, in which these children have begun.
pub record IsLevel (level : StackNode) (b : Begun) (children : Forest) : Type 0 where
  pub kind : kind_of_head b.head ≡ level.kind
  pub stop : b.stop ≡ 8 * level.stop
  pub seen : AreSeen (groups b) children level.seen.bits

-- levels of the begun nodes around one of a kind, the innermost first: each has the node that is open in it among its children
abbrev pub AreLevels : List StackNode → Kind → List Begun → Type 0
AreLevels [] kind [] = Unit {0}
AreLevels [] kind (b ∷ outer) = ⊥
AreLevels (l ∷ ls) kind [] = ⊥
AreLevels (l ∷ ls) kind (b ∷ outer) = IsLevel l b (with_begun b.children kind) × AreLevels ls (kind_of_head b.head) outer

-- the bit up to which all is read
abbrev pub bit_of : BodyReader → ℕ
bit_of r = 8 * r.at + r.bit

-- The innermost node awaits a field, its tail, or what is after both.
pub record IsLeading (next : ℕ) (r : BodyReader) (front : List ℕ) (b : Begun) (outer : List Begun) : Type 0 where
  pub bare : b ≡ leading b.head b.stop b.fields
  pub count : length b.fields ≡ next
  pub first_is : r.first ≡ first b.fields
  pub reaches : Reaches r.set front r.octets (b ∷ outer) (bit_of r)

-- Of the tail of the innermost node some octets are read, and this many are left.
pub record IsTailing (left : ℕ) (r : BodyReader) (front : List ℕ) (b : Begun) (outer : List Begun) : Type 0 where
  pub so_far : List ℕ
  pub from : ℕ
  pub is : b ≡ begin_node b.head b.stop b.fields (Some so_far) none
  pub all_fields : length b.fields ≡ length (rules b)
  pub has : has_tail (form b) ≡ true
  pub aligned : r.bit ≡ 0
  pub place : r.at ≡ from + count_octets (form b) + length so_far
  pub reaches : Reaches r.set front r.octets (leading b.head b.stop b.fields ∷ outer) (8 * from)
  pub length_is : (later : List Bool) → tail_length (form b) (plain_values (rules b) b.fields) (b.stop - 8 * from) (drop (8 * from) (digits_of_bytes front) ++ later) ≡ length so_far + left
  pub inside : 8 * (r.at + left) ≤ b.stop
  pub before : r.at ≤ length front
  pub read : (later : List Bool) → octets_at (length so_far) (drop (8 * (from + count_octets (form b))) (digits_of_bytes front) ++ later) ≡ so_far
  pub units : AreWhole (form b) so_far

-- The innermost node awaits a child, or its end.
pub record IsResting (r : BodyReader) (front : List ℕ) (b : Begun) (outer : List Begun) : Type 0 where
  pub ready : due b ≡ Rest
  pub aligned : r.bit ≡ 0
  pub reaches : Reaches r.set front r.octets (b ∷ outer) (8 * r.at)

abbrev pub IsAtStage : Stage → BodyReader → List ℕ → Begun → List Begun → Type 0
IsAtStage (Leading next) r front b outer = IsLeading next r front b outer
IsAtStage (Tail left) r front b outer = IsTailing left r front b outer
IsAtStage Children r front b outer = IsResting r front b outer

-- the begun node of which all parts so far are whole
abbrev pub settled : Stage → Begun → Begun
settled (Leading next) b = b
settled (Tail left) b = leading b.head b.stop b.fields
settled Children b = b

-- The engine has read a front of a frame up to a place: these nodes are begun.
pub record HasReadTo (r : BodyReader) (front : List ℕ) (b : Begun) (outer : List Begun) : Type 0 where
  pub level : IsLevel r.top b b.children
  pub levels : AreLevels (reverse r.outer.items) (kind_of_head b.head) outer
  pub stage : IsAtStage r.stage r front b outer
  pub before : r.at ≤ length front
  pub small : r.octets ≤ MAX_LIMIT
  pub bit_small : r.bit < 8

-- what comes next in the innermost node: the field with this index or the tail, more octets of its tail, or a child or its end; of a node without a tail yet the first field is known
abbrev pub IsDueAt : Stage → (known : ℕ) → Begun → Type 0
IsDueAt (Leading next) known b = (length b.fields ≡ next) × (b.tail ≡ None) × (known ≡ first b.fields)
IsDueAt (Tail left) known b = (so_far : List ℕ) × (b.tail ≡ Some so_far)
IsDueAt Children known b = due b ≡ Rest

-- a fault of text comes within a tail, and no other does
abbrev pub MayFailFor : Stage → Reason → Type 0
MayFailFor (Leading next) reason = Unit {0}
MayFailFor (Tail left) reason = reason ≡ Utf8
MayFailFor Children reason = reason ≢ Utf8

-- so the innermost node of an open tree is read where a check fails for the reason; without one nothing is begun
abbrev pub IsStopped : Option Stopped → List Begun → Reason → Type 0
IsStopped None t reason = t ≡ []
IsStopped (Some stopped) [] reason = ⊥
IsStopped (Some stopped) (b ∷ outer) reason = IsLevel stopped.node b b.children × IsDueAt stopped.stage stopped.first b × MayFailFor stopped.stage reason

-- what a listener received, by what comes next
abbrev pub Told : (begins stands : List Begun → Type 0) → Stage → List Begun → Type 0
Told begins stands (Leading next) t = begins t
Told begins stands (Tail left) t = begins t
Told begins stands Children t = stands t

-- the same, by how far the innermost node of a faulty frame is read
abbrev pub ToldBy : (begins stands : List Begun → Type 0) → Option Stopped → List Begun → Type 0
ToldBy begins stands None t = stands t
ToldBy begins stands (Some stopped) t = Told begins stands stopped.stage t

-- Both have come so far.
pub record Are (begins stands : List Begun → Type 0) (r : BodyReader) (front : List ℕ) : Type 0 where
  pub node : Begun
  pub outer : List Begun
  pub reads : HasReadTo r front node outer
  pub told : Told begins stands r.stage (node ∷ outer)
