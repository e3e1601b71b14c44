-- Beside Calls/Reading: words of private functions.
use Rattle.std.specs.Prelude.{Some, nat_le, ◌≡◌, ℕ, ◌+◌, ◌-◌, ◌*◌, ◌/◌, ◌<◌, ◌≤◌, ◌⊎◌, Bool, true, false, List, [], ◌∷◌, ◌++◌, length, drop, Result, Ok, Err, Option, IfOk, MatchResult}
use Rattle.tag_bits.specs.Digits.{digits_of_bytes}
use Rattle.llrp_schema.specs.declared.kinds.KindSet.{KindSet}
use Rattle.llrp_schema.specs.declared.kinds.KindSet.TheVariants.{Profile, Standard}
use Rattle.llrp_schema.specs.Schema.{GroupRule, bits_of, fields_of, groups_of, is_tv, set_of_kind, tail_of}
use Rattle.llrp_schema.specs.declared.kinds.Tail.TheVariants.{Absent}
use Rattle.llrp_tree.specs.declared.TheConstants.{MAX_LIMIT}
use Rattle.llrp_tree.specs.declared.fault.Fault.{Fault}
use Rattle.llrp_tree.specs.declared.fault.FrameErr.{FrameErr}
use Rattle.llrp_tree.specs.Tree.{Forest}
use Rattle.llrp_schema.specs.declared.kinds.Kind.{Kind}
use Rattle.llrp_schema.specs.declared.kinds.Kind.TheVariants.{Parameter}
use Rattle.llrp_stream.specs.declared.engine.stack.Placed.{Placed}
use Rattle.llrp_schema.specs.declared.kinds.ParamKind.{ParamKind}
use Rattle.llrp_schema.specs.declared.kinds.ParamKind.TheVariants.{TagReportData, WholeTagReportData}
use Rattle.llrp_tree.specs.declared.fault.FrameErr.TheVariants.{Bad, Memory}
use Rattle.llrp_tree.specs.declared.fault.Reason.TheVariants.{Extra}
use Rattle.llrp_tree.specs.FirstFault.{first_digit, tv_kind, kind_checks, tlv_checks, has_none, has_ended}
use Rattle.llrp_tree.specs.Private.Standing.{FailsFirst, KindPasses, TlvPasses}
use Rattle.llrp_stream.specs.declared.engine.stack.Child.{Child}
use Rattle.llrp_stream.specs.declared.engine.stack.Child.TheVariants as child
use Rattle.llrp_tree.specs.OpenTree.{Begun, groups, due, Rest, is_enough}
use Rattle.llrp_stream.specs.declared.engine.body_reader.Stage.{Stage}
use Rattle.llrp_stream.specs.declared.engine.body_reader.Stage.TheVariants.{Leading, Tail, Children}
use Rattle.llrp_stream.specs.declared.engine.body_reader.Step.{Step}
use Rattle.llrp_stream.specs.declared.engine.body_reader.Step.TheVariants.{Waits, Goes, Ends}
use Rattle.llrp_stream.specs.declared.engine.body_reader.BodyReader.{BodyReader}
use Rattle.llrp_stream.specs.Calls.Front.{Reaches, IsUndecided}
use Rattle.llrp_stream.specs.Private.Front.{FailsHanded, FailsWith}
use Rattle.llrp_stream.specs.Calls.Reading.{with_begun, AreSeen, settled, Are}

-- The message has all its parts.
pub record IsComplete (stands : List Begun → Type 0) (r : BodyReader) (front : List ℕ) : Type 0 where
  pub node : Begun
  pub ready : due node ≡ Rest
  pub reaches : Reaches r.set front r.octets (node ∷ []) (8 * r.at)
  pub over : has_ended node.head (nat_le node.stop (8 * r.at)) ≡ true
  pub enough : is_enough (groups node) node.children ≡ true
  pub told : stands (node ∷ [])

-- what is left to do with this many octets: it falls with each step
abbrev pub rank : Stage → ℕ
rank (Leading next) = 3
rank (Tail left) = 2
rank Children = 1

unfoldable pub work : BodyReader → ℕ → ℕ
work r left = 40 * (8 * left - r.bit) + 4 * length r.outer.items + rank r.stage

-- A step took some octets.
pub record Moves (begins stands : List Begun → Type 0) (old new : BodyReader) (front octets : List ℕ) (used : ℕ) : Type 0 where
  pub within : used ≤ length octets
  pub are : Are begins stands new front
  pub place : new.at ≡ old.at + used
  pub same : new.octets ≡ old.octets
  pub set : new.set ≡ old.set
  pub less : work new (length octets - used) < work old (length octets)

-- The next part is not whole in the octets.
pub record Waiting (begins stands : List Begun → Type 0) (old new : BodyReader) (front octets : List ℕ) : Type 0 where
  pub few : length octets < 16
  pub are : Are begins stands new front
  pub place : new.at ≡ old.at
  pub same : new.octets ≡ old.octets
  pub set : new.set ≡ old.set
  pub short : old.at + length octets < old.octets
  pub undecided : IsUndecided front new.octets (settled new.stage are.node ∷ are.outer)

-- What a step does: it waits for more octets, takes some, or finds the message whole.
abbrev pub Steps : (begins stands : List Begun → Type 0) → (old new : BodyReader) → (front octets : List ℕ) → Result Step FrameErr → Type 0
Steps begins stands old new front octets (Ok Waits) = Waiting begins stands old new front octets
Steps begins stands old new front octets (Ok (Goes used)) = Moves begins stands old new front octets used
Steps begins stands old new front octets (Ok Ends) = IsComplete stands new front × (new.at ≡ old.at) × (new.octets ≡ old.octets) × (new.set ≡ old.set)
Steps begins stands old new front octets (Err e) = FailsWith begins stands new old.at old.set front old.octets e

-- the same, where a fault is handed on
abbrev pub StepsHanded : (begins stands : List Begun → Type 0) → (faulty : List Begun → List ℕ → Fault → Type 0) → (old new : BodyReader) → (front octets : List ℕ) → Result Step FrameErr → Type 0
StepsHanded begins stands faulty old new front octets (Ok step) = Steps begins stands old new front octets (Ok step)
StepsHanded begins stands faulty old new front octets (Err e) = FailsHanded stands faulty old.set front old.octets e

-- A child's kind passes its checks, and these are its parent's bits once it has begun.
pub record MayBeginThere (found : Option ParamKind) (groups : List GroupRule) (children : Forest) (level : ℕ) (placed : Placed) : Type 0 where
  pub passes : KindPasses found groups children level placed.kind
  pub seen : AreSeen groups (with_begun children (Parameter placed.kind)) placed.seen.bits

-- a check of a head fails first
abbrev pub HeadFails : (p : KindSet) (groups : List GroupRule) (children : Forest) (level at stop : ℕ) (rest : List Bool) → FrameErr → Type 0
HeadFails p groups children level at stop rest e =
    ((has_none groups ≡ true) × (e ≡ Bad (record { bit = at; reason = Extra })))
    ⊎ ((has_none groups ≡ false) × (first_digit rest ≡ true) × FailsFirst (kind_checks (tv_kind p rest) groups children level at (at + 1)) e)
    ⊎ ((has_none groups ≡ false) × (first_digit rest ≡ false) × FailsFirst (tlv_checks p groups children level at stop rest) e)

-- Some whole parameters of type and value were taken, of this many octets, or none.
pub record TakesOneValue (begins stands : List Begun → Type 0) (old new : BodyReader) (front octets : List ℕ) (used : ℕ) : Type 0 where
  pub within : used ≤ length octets
  pub are : Are begins stands new front
  pub place : new.at ≡ old.at + used
  pub same : new.octets ≡ old.octets
  pub set : new.set ≡ old.set

-- Some whole parameters of type and value were taken, or none, and these octets are left.
pub record TakenSoFar (begins stands : List Begun → Type 0) (old new : BodyReader) (front octets rest : List ℕ) : Type 0 where
  pub takes : TakesOneValue begins stands old new front octets (length octets - length rest)
  pub behind : drop new.at front ≡ rest

-- A parameter of type and value comes next in the innermost node, which has these children and is one level higher; it may begin there, and is whole in the octets.
pub record IsWholeValue (r : BodyReader) (octets : List ℕ) (children : Forest) (level : ℕ) (placed : Placed) : Type 0 where
  pub short : is_tv placed.kind ≡ true
  pub digit : (later : List Bool) → first_digit (digits_of_bytes octets ++ later) ≡ true
  pub may_begin : (later : List Bool) → MayBeginThere (tv_kind (set_of_kind r.top.kind) (digits_of_bytes octets ++ later)) (groups_of r.top.kind) children level placed
  pub whole : 8 + bits_of (fields_of (Parameter placed.kind)) ≤ 8 * length octets
  pub inside : 8 * r.at + 8 + bits_of (fields_of (Parameter placed.kind)) ≤ 8 * r.top.stop

-- a whole parameter of type and value comes next, by the bits of the innermost node's groups
abbrev pub IsNextWhole : BodyReader → List ℕ → Placed → Type 0
IsNextWhole r octets placed = (children : Forest) → AreSeen (groups_of r.top.kind) children r.top.seen.bits → IsWholeValue r octets children (length r.outer.items + 1) placed

-- The innermost node awaits a child or its end, at or before its stop.
pub record Rests (r : BodyReader) : Type 0 where
  pub stage : r.stage ≡ Children
  pub stop : r.top.stop ≤ MAX_LIMIT
  pub before : r.at ≤ r.top.stop

-- A kind has neither fields nor a tail.
pub record IsBare (kind : Kind) : Type 0 where
  pub fields : fields_of kind ≡ []
  pub tail : tail_of kind ≡ Absent

-- ---- parameters of type and value in a row

-- the TagReportData of a set of kinds
abbrev pub report_of : KindSet → ParamKind
report_of Profile = TagReportData
report_of Standard = WholeTagReportData

-- The octets begin with a parameter of type and value of a set, which has this kind.
pub record BeginsValue (set : KindSet) (octets : List ℕ) (kind : ParamKind) : Type 0 where
  pub some : 1 ≤ length octets
  pub short : is_tv kind ≡ true
  pub digit : (later : List Bool) → first_digit (digits_of_bytes octets ++ later) ≡ true
  pub found : (later : List Bool) → tv_kind set (digits_of_bytes octets ++ later) ≡ Some kind

-- Such parameters may come next: the innermost node is the set's TagReportData, a child of the message, and awaits a child or its end, and this many of the octets are in it.
pub record AwaitsValues (set : KindSet) (r : BodyReader) (octets : List ℕ) (left : ℕ) : Type 0 where
  pub stage : r.stage ≡ Children
  pub stop : r.top.stop ≤ MAX_LIMIT
  pub kind : r.top.kind ≡ Parameter (report_of set)
  pub second : length r.outer.items ≡ 1
  pub within : left ≤ length octets
  pub near : r.at + left ≤ r.top.stop
  pub seen : (children : Forest) × AreSeen (groups_of r.top.kind) children r.top.seen.bits

-- The innermost node and those around it are the same, but for the children of the innermost.
pub record KeepsNode (old new : BodyReader) : Type 0 where
  pub stage : new.stage ≡ old.stage
  pub kind : new.top.kind ≡ old.top.kind
  pub stop : new.top.stop ≡ old.top.stop
  pub outer : new.outer ≡ old.outer

-- Some such parameters were taken, or none, or memory ran out. A listener received what the first two relations say, and now what the last two say.
pub record TakesValues (begins0 stands0 begins stands : List ℕ → List Begun → Type 0) (old new : BodyReader) (octets : List ℕ) (left : ℕ) (result : Result ℕ FrameErr) : Type 0 where
  pub keeps : KeepsNode old new
  pub used : IfOk result (λ used. (used ≤ left) × (new.at ≡ old.at + used))
  pub takes : (was front : List ℕ) → Are (begins0 was) (stands0 was) old front → drop old.at front ≡ octets → MatchResult result (TakesOneValue (begins was) (stands was) old new front octets) (λ error. error ≡ Memory)

-- ---- the head of a child

-- what is read of a head
abbrev pub HeadSays : (p : KindSet) (groups : List GroupRule) (children : Forest) (level at stop : ℕ) (rest : List Bool) (octets : List ℕ) → Result Child FrameErr → Type 0
HeadSays p groups children level at stop rest octets (Ok child.Unfinished) = (length octets < 4) × (at + 8 * length octets < stop) × (has_none groups ≡ false) × ((octets ≡ []) ⊎ ((first_digit rest ≡ false) × (at + 32 ≤ stop)))
HeadSays p groups children level at stop rest octets (Ok (child.Short placed)) = (1 ≤ length octets) × (has_none groups ≡ false) × (first_digit rest ≡ true) × KindPasses (tv_kind p rest) groups children level placed.kind × AreSeen groups (with_begun children (Parameter placed.kind)) placed.seen.bits
HeadSays p groups children level at stop rest octets (Ok (child.Long placed size)) = (4 ≤ length octets) × (has_none groups ≡ false) × (first_digit rest ≡ false) × TlvPasses p groups children level at stop rest placed.kind size × AreSeen groups (with_begun children (Parameter placed.kind)) placed.seen.bits
HeadSays p groups children level at stop rest octets (Err e) = HeadFails p groups children level at stop rest e

-- whatever children the bits of the groups are of, and whatever comes later, this is read of a head
abbrev pub HeadIs : Kind → (seen level at stop : ℕ) → List ℕ → Result Child FrameErr → Type 0
HeadIs parent seen level at stop octets result = (children : Forest) (later : List Bool) → AreSeen (groups_of parent) children seen → HeadSays (set_of_kind parent) (groups_of parent) children level (8 * at) (8 * stop) (digits_of_bytes octets ++ later) octets result

-- The octets decide the checks of a child's head: the parent has no children, or four octets of it are there, or one, where a head with a length ends after the parent or the child has type and value.
abbrev pub HasHead : Kind → (at stop : ℕ) → List ℕ → Type 0
HasHead parent at stop octets = (has_none (groups_of parent) ≡ true) ⊎ ((1 ≤ length octets) × ((4 ≤ length octets) ⊎ ((stop < at + 4) ⊎ ((later : List Bool) → first_digit (digits_of_bytes octets ++ later) ≡ true))))

-- whatever children they are of, a child of this kind may begin in the parent, or the error is the first check that it fails
abbrev pub PlacesKind : Option ParamKind → Kind → (seen level at type_at : ℕ) → Result Placed FrameErr → Type 0
PlacesKind found parent seen level at type_at result = (children : Forest) → AreSeen (groups_of parent) children seen → MatchResult result (MayBeginThere found (groups_of parent) children level) (FailsFirst (kind_checks found (groups_of parent) children level at type_at))

-- the octets of a parameter of type and value
abbrev pub octets_of_value : ParamKind → ℕ
octets_of_value kind = 1 + bits_of (fields_of (Parameter kind)) / 8
