-- The plans that calls make, and what is read in one.
use Rattle.std.specs.Prelude.{ℕ, ◌==◌, ◌||◌, nat_lt, not, Bool, true, false, List, [], ◌∷◌, Option, None, Some, if◌then◌else◌}
use Rattle.llrp_schema.specs.declared.kinds.KindSet.{KindSet}
use Rattle.llrp_schema.specs.declared.kinds.KindSet.TheVariants.{Profile, Standard}
use Rattle.llrp_schema.specs.declared.kinds.ParamKind.{ParamKind}
use Rattle.llrp_schema.specs.declared.kinds.ParamKind.TheVariants.{RoSpec, RoBoundarySpec, RoSpecStartTrigger, RoReportSpec, WholeRoSpec, WholeRoBoundarySpec, WholeRoSpecStartTrigger}
use Rattle.llrp_tree.specs.Tree.{Tree}
use Rattle.llrp_tree.specs.Lawful.{tree_octets}
use Rattle.llrp_session.specs.RoSpec.{is_kind, first_of, first_below, field_of}
use Rattle.llrp_session.specs.declared.types.Command.{Command}
use Rattle.llrp_endpoints.specs.declared.plan.PlanFault.{PlanFault}
use Rattle.llrp_endpoints.specs.declared.plan.PlanFault.TheVariants.{NotRoSpec, Value, OverLimit}
use Rattle.llrp_endpoints.specs.declared.course.Step.{Step}
use Rattle.llrp_endpoints.specs.declared.course.Step.TheVariants.{Send, AwaitTags}
use Rattle.llrp_endpoints.specs.declared.form.LineForm.TheVariants.{Words}
use Rattle.llrp_endpoints.specs.Asides.{no_asides}
use Rattle.llrp_endpoints.specs.Plan.{Plan, rospec, steps}

-- the plan of an inventory with the ROSpec of a standard plan
abbrev pub standard : ℕ → ℕ → Bool → Plan
standard every polls checked = record { rospec = rospec every; asides = no_asides; cleans = false; renews = false; passes = false; adds = true; starts = true; keepalive = 0; reports = 0; polls = polls; checked = checked; disables = false; form = Words; set = Profile }

-- ---- a ROSpec that is given

-- the greatest length of one, in octets: a message that adds or lists it alone has at most 4,096
abbrev pub longest_rospec : ℕ
longest_rospec = 4078

-- the kinds of a ROSpec, of its boundary and of its start trigger
abbrev pub rospec_kind : KindSet → ParamKind
rospec_kind Profile = RoSpec
rospec_kind Standard = WholeRoSpec

abbrev pub boundary_kind : KindSet → ParamKind
boundary_kind Profile = RoBoundarySpec
boundary_kind Standard = WholeRoBoundarySpec

abbrev pub start_kind : KindSet → ParamKind
start_kind Profile = RoSpecStartTrigger
start_kind Standard = WholeRoSpecStartTrigger

-- a start trigger of type 0 leaves the start to START_ROSPEC (LLRP 1.1, section 11)
abbrev pub is_commanded : KindSet → Tree → Bool
is_commanded set t = field_of 0 (first_below (start_kind set) (first_of (boundary_kind set) t)) == 0

-- the first fault of a parameter that is given as a plan's ROSpec: it is no ROSpec; its id is 0, which stands for all ROSpecs, or its state is not
-- Disabled; it is too long
abbrev pub plan_fault : KindSet → Tree → Option PlanFault
plan_fault set t =
    if not (is_kind (rospec_kind set) t) then Some NotRoSpec
    else (if (field_of 0 (Some t) == 0) || not (field_of 2 (Some t) == 0) then Some Value
    else (if nat_lt longest_rospec (tree_octets t) then Some OverLimit else None))

-- the plan of an inventory with it
abbrev pub given : Tree → ℕ → Bool → Plan
given t polls checked = record { rospec = t; asides = no_asides; cleans = false; renews = false; passes = false; adds = true; starts = is_commanded Profile t; keepalive = 0; reports = 0; polls = polls; checked = checked; disables = true; form = Words; set = Profile }

-- ---- what is read in a plan

-- after how many tags the reader reports: N of the ROReportSpec
abbrev pub every : Plan → ℕ
every plan = field_of 1 (first_of RoReportSpec plan.rospec)

-- the commands among steps
abbrev pub commands_in : List Step → List Command
commands_in [] = []
commands_in (Send k ∷ steps) = k ∷ commands_in steps
commands_in (AwaitTags ∷ steps) = commands_in steps

abbrev pub commands : Plan → List Command
commands plan = commands_in (steps plan)
