-- The course of operations on one tag.
use Rattle.std.specs.Prelude.{◌≡◌, ℕ, ◌==◌, ◌&&◌, ◌||◌, not, Bool, true, false, if◌then◌else◌, List, [], ◌∷◌, ◌++◌, Option, Some, None, is_some, option_map, unwrap_or}
use Rattle.std.specs.List.{starts_with}
use Rattle.std.specs.Str.{bytes_eq}
use Rattle.llrp_operations.specs.declared.course.Course.{Course as Client}
use Rattle.llrp_operations.specs.declared.course.Demand.{Demand}
use Rattle.llrp_operations.specs.declared.course.Demand.TheVariants.{ClearAccess, ClearInventory, AddInventory, EnableInventory, StartInventory, AddAccess, EnableAccess, RemoveAccess, RemoveInventory, Close}
use Rattle.llrp_operations.specs.declared.course.Heard.{Heard}
use Rattle.llrp_operations.specs.declared.course.Heard.TheVariants.{Accepts, Answers, Keepalive, Sees, Results}
use Rattle.llrp_operations.specs.declared.course.Outcome.{Outcome}
use Rattle.llrp_operations.specs.declared.course.Outcome.TheVariants.{Reported, Refused, RefusedTargets, Several, NoEpc, NoTag, Unknown, Broken}
use Rattle.llrp_operations.specs.declared.course.Saying.{Saying}
use Rattle.llrp_operations.specs.declared.course.Saying.TheVariants.{Asks, Acknowledges}
use Rattle.llrp_operations.specs.declared.course.Stage.{Stage}
use Rattle.llrp_operations.specs.declared.course.Stage.TheVariants.{Accepting, Asking, Seeking, Settling, Operating, Ended, Lost}

-- how far a client is
pub record Course : Type 0 where
  pub mask : List ℕ  -- the EPC of the tag, or nothing for any tag
  pub changes : Bool  -- the tag is written or locked
  pub stage : Stage
  pub seen : Option (List ℕ)  -- the first EPC that the mask selects; of no octets where the tag cannot be named
  pub several : Bool  -- it selects another one too
  pub refused : Option ℕ  -- the status by which the reader refused something
  pub refused_targets : Bool  -- that is the AccessSpec, which has two C1G2TargetTags
  pub armed : Bool  -- ENABLE_ACCESSSPEC was said
  pub reported : Bool  -- the results came
  pub said : List Saying  -- all that was said

-- the course of a client that has said this
abbrev pub course_of : Client → List Saying → Course
course_of c said = record {
  mask = c.mask.now;
  changes = c.changes;
  stage = c.stage;
  seen = option_map (λ epc. epc.items) c.seen;
  several = c.several;
  refused = c.refused;
  refused_targets = c.refused_targets;
  armed = c.armed;
  reported = c.reported;
  said = said;
}

-- the client is connected, and the reader has not accepted it yet
abbrev pub first_course : (mask : List ℕ) (changes : Bool) → Course
first_course mask changes = record { mask = mask; changes = changes; stage = Accepting; seen = None; several = false; refused = None; refused_targets = false; armed = false; reported = false; said = [] }

-- ---- what is said

abbrev pub arms : Demand → Bool
arms EnableAccess = true
arms _ = false

abbrev pub say : Demand → Course → Course
say d c = record c { stage = Asking d; armed = c.armed || arms d; said = c.said ++ Asks d ∷ [] }

-- ---- the inventory before a change

-- tags are counted before a change, while this is waited for
abbrev pub looks : Stage → Bool
looks (Asking StartInventory) = true
looks Seeking = true
looks Settling = true
looks _ = false

-- the mask selects the EPCs that begin with it
abbrev pub selects : (mask epc : List ℕ) → Bool
selects mask epc = starts_with (λ a b. a == b) epc mask

abbrev pub noted : List ℕ → Option (List ℕ) → Course → Course
noted epc None c = record c { seen = Some epc }
noted epc (Some first) c = if bytes_eq first epc then c else record c { several = true }

-- the first tag ends the search, and further ones are waited for
abbrev pub settled : Stage → Stage
settled Seeking = Settling
settled stage = stage

abbrev pub counted : List ℕ → Course → Course
counted epc c = record (noted epc c.seen c) { stage = settled c.stage }

abbrev pub sees : List ℕ → Course → Course
sees epc c = if c.changes && (looks c.stage && selects c.mask epc) then counted epc c else c

-- one tag was seen that the mask selects, it can be named, and it is the one that is meant
abbrev pub is_alone : (mask : List ℕ) → Option (List ℕ) → (several : Bool) → Bool
is_alone mask None several = false
is_alone mask (Some epc) several = not several && (not (bytes_eq epc []) && (bytes_eq mask [] || bytes_eq mask epc))

abbrev pub settle : Course → Course
settle c = if is_alone c.mask c.seen c.several then say AddAccess c else say RemoveAccess c

-- the EPC that the AccessSpec is for
abbrev pub target : Course → List ℕ
target c = unwrap_or c.seen c.mask

-- ---- what follows on what was granted

-- the inventory runs: a change waits for tags, and a read is asked for at once
abbrev pub look : Course → Course
look c = if not c.changes then say AddAccess c else record c { stage = if is_some c.seen then Settling else Seeking }

abbrev pub operate : Course → Course
operate c = if c.reported then say RemoveAccess c else record c { stage = Operating }

abbrev pub granted : Demand → Course → Course
granted ClearAccess c = say ClearInventory c
granted ClearInventory c = say AddInventory c
granted AddInventory c = say EnableInventory c
granted EnableInventory c = say StartInventory c
granted StartInventory c = look c
granted AddAccess c = say EnableAccess c
granted EnableAccess c = operate c
granted RemoveAccess c = say RemoveInventory c
granted RemoveInventory c = say Close c
granted Close c = record c { stage = Ended }

-- there may be nothing to be deleted: an AccessSpec that ended by its count is no longer there
abbrev pub tolerates : Demand → Bool
tolerates ClearAccess = true
tolerates ClearInventory = true
tolerates RemoveAccess = true
tolerates RemoveInventory = true
tolerates Close = true
tolerates _ = false

-- ---- what comes

-- the demand is for an AccessSpec that names its tag: it has two C1G2TargetTags (`targets`), of which a reader may take one alone
abbrev pub adds_access : Demand → Bool
adds_access AddAccess = true
adds_access _ = false

abbrev pub names_tag : Demand → Course → Bool
names_tag d c = adds_access d && not (bytes_eq (target c) [])

abbrev pub refused_by : Demand → ℕ → Course → Course
refused_by d status c = record c { refused = Some status; refused_targets = names_tag d c }

abbrev pub answered : Demand → ℕ → Course → Course
answered d status c = if (status == 0) || tolerates d then granted d c else say RemoveAccess (refused_by d status c)

abbrev pub answer : Stage → ℕ → Course → Course
answer (Asking d) status c = answered d status c
answer _ status c = c

abbrev pub accept : Stage → ℕ → Course → Course
accept Accepting status c = if status == 0 then say ClearAccess c else record c { refused = Some status; stage = Ended }
accept _ status c = c

abbrev pub stands : Stage → Bool
stands Ended = false
stands Lost = false
stands _ = true

abbrev pub acknowledge : ℕ → Course → Course
acknowledge id c = if stands c.stage then record c { said = c.said ++ Acknowledges id ∷ [] } else c

-- the results came, of an AccessSpec that was enabled: they are all that is waited for. Those that come late count too.
abbrev pub finished : Stage → Course → Course
finished Operating c = say RemoveAccess (record c { reported = true })
finished _ c = record c { reported = true }

abbrev pub finish : Course → Course
finish c = if not c.armed then c else finished c.stage c

abbrev pub hear : Heard → Course → Course
hear (Accepts status) c = accept c.stage status c
hear (Answers status) c = answer c.stage status c
hear (Keepalive id) c = acknowledge id c
hear (Sees epc) c = sees epc.now c
hear Results c = finish c

-- nothing more came in time
abbrev pub silent : Stage → Course → Course
silent Accepting c = record c { stage = Lost }
silent (Asking d) c = record c { stage = Lost }
silent Seeking c = say RemoveAccess c
silent Settling c = settle c
silent Operating c = say RemoveAccess c
silent Ended c = c
silent Lost c = c

-- nothing more can come
abbrev pub lose : Course → Course
lose c = if stands c.stage then record c { stage = Lost } else c

-- ---- what comes of it

abbrev pub is_lost : Stage → Bool
is_lost Lost = true
is_lost _ = false

abbrev pub refused_or : Option ℕ → (targets : Bool) → Outcome → Outcome
refused_or (Some status) targets outcome = if targets then RefusedTargets status else Refused status
refused_or None targets outcome = outcome

-- the reader may have changed a tag without a report: an AccessSpec that changes one was enabled
abbrev pub may_have_changed : Course → Bool
may_have_changed c = c.armed && c.changes

-- the tag that was seen has no EPC
abbrev pub is_nameless : Option (List ℕ) → Bool
is_nameless None = false
is_nameless (Some epc) = bytes_eq epc []

-- nothing was refused and no results came
abbrev pub resultless : Course → Outcome
resultless c = if c.several then Several else if may_have_changed c then Unknown else if is_nameless c.seen then NoEpc else NoTag

abbrev pub outcome : Course → Outcome
outcome c =
    if c.reported then Reported
    else if is_lost c.stage then (if may_have_changed c then Unknown else Broken)
    else refused_or c.refused c.refused_targets (resultless c)

-- ---- calls that say nothing

-- nothing more can come
abbrev pub IsLost : (old new : Client) → Type 0
IsLost old new = (said : List Saying) → course_of new said ≡ lose (course_of old said)
