-- The text of a ROSpec: its lines, as a listing has them below the line of the message that adds it.
use Rattle.std.specs.Prelude.{◌≡◌, ℕ, suc, ◌+◌, ◌-◌, ◌==◌, ◌⊎◌, ◌≤◌, max, Bool, if◌then◌else◌, List, [], ◌∷◌, ◌++◌, get_or, codes, Option, None, Some}
use Rattle.llrp_schema.specs.declared.kinds.MsgKind.{MsgKind}
use Rattle.llrp_schema.specs.declared.kinds.MsgKind.TheVariants.{AddRoSpec, WholeAddRoSpec}
use Rattle.llrp_schema.specs.declared.kinds.ParamKind.TheVariants.{RoSpec}
use Rattle.llrp_schema.specs.declared.kinds.KindSet.{KindSet}
use Rattle.llrp_schema.specs.declared.kinds.KindSet.TheVariants.{Profile, Standard}
use Rattle.llrp_tree.specs.Tree.{Tree, MessageTree, forest}
use Rattle.llrp_tree.specs.Lawful.{IsLawfulTree, tree_octets}
use Rattle.llrp_tree.specs.declared.node.NodeFault.TheVariants as node
use Rattle.llrp_listing.specs.declared.outcome.Refusal.{Refusal}
use Rattle.llrp_listing.specs.declared.outcome.Refusal.TheVariants.{Level, Name, Node, OverLimit}
use Rattle.llrp_listing.specs.Lines.{TextLine, Ended, Unended, lines_of}
use Rattle.llrp_listing.specs.MessageListing.{IsListingOf}
use Rattle.llrp_listing.specs.Calls.ListingLaws.{IsListing, IsRefused}
use Rattle.llrp_endpoints.specs.declared.plan.PlanFault.{PlanFault}
use Rattle.llrp_endpoints.specs.declared.plan.PlanFault.TheVariants.{NotRoSpec, Value, OverLimit as TooLong}
use Rattle.llrp_endpoints.specs.declared.plan.text.PlanErr.{PlanErr}
use Rattle.llrp_endpoints.specs.declared.plan.text.PlanErr.TheVariants.{Line, Memory}
use Rattle.llrp_endpoints.specs.Asides.{no_asides}
use Rattle.llrp_endpoints.specs.Plan.{Plan, boundary, antenna_inventory}
use Rattle.llrp_endpoints.specs.Calls.Plans.{given, is_commanded, longest_rospec, plan_fault, rospec_kind}

-- the line of the message, with version 1 and id 1
abbrev pub heading : List ℕ
heading = codes "0 ADD_ROSPEC 1 1\n"

-- the message that adds it, of a set of kinds
abbrev pub adding_kind : KindSet → MsgKind
adding_kind Profile = AddRoSpec
adding_kind Standard = WholeAddRoSpec

abbrev pub adding : KindSet → Tree → MessageTree
adding set t = record { version = 1; id = 1; kind = adding_kind set; fields = []; tail = []; children = forest (t ∷ []) }

-- the greatest length of the message, in octets
abbrev pub longest_adding : ℕ
longest_adding = 10 + longest_rospec

-- the text lists this parameter below that line, and nothing else
abbrev pub ListsRoSpec : KindSet → List ℕ → Tree → Type 0
ListsRoSpec set text t = IsListingOf (adding set t ∷ []) (heading ++ text)

-- It is a lawful ROSpec, and short enough.
pub record IsTaken (set : KindSet) (t : Tree) : Type 0 where
  pub kind : t.kind ≡ rospec_kind set
  pub lawful : IsLawfulTree t
  pub short : tree_octets t ≤ longest_rospec

-- ---- the plan

-- what a client knows of a ROSpec of the whole standard: its fields, above the parts of a standard plan's
abbrev pub known : Tree → Tree
known t = record { kind = RoSpec; fields = t.fields; tail = []; children = forest (boundary ∷ antenna_inventory ∷ []) }

-- the plan of an inventory with a ROSpec; one of the whole standard is added as it is
abbrev pub given_in : KindSet → Tree → ℕ → Bool → Plan
given_in Profile t polls checked = given t polls checked
given_in Standard t polls checked = record (given (known t) polls checked) { asides = record no_asides { whole = Some (adding Standard t) }; starts = is_commanded Standard t }

-- ---- refusals

-- a line of the text, by its number below that line, which itself counts as the first
abbrev pub line_below : ℕ → ℕ
line_below number = max 1 (number - 1)

-- with that line before it, the text is refused so by the rules of listings, before a message is closed
abbrev pub IsRefusedFirst : KindSet → List ℕ → ℕ → Refusal → Type 0
IsRefusedFirst set text line reason = (number : ℕ) × IsRefused set longest_adding (heading ++ text) number reason [] × (line ≡ line_below number)

-- another message follows the first: the text lists more of them, or the first one is closed before its first refusal
abbrev pub HasAnother : KindSet → List ℕ → Type 0
HasAnother set text =
    ((m n : MessageTree) × (ms : List MessageTree) × IsListing set longest_adding (heading ++ text) (m ∷ n ∷ ms))
    ⊎ ((m : MessageTree) × (ms : List MessageTree) × (number : ℕ) × (reason : Refusal) × IsRefused set longest_adding (heading ++ text) number reason (m ∷ ms))

-- a line begins with 0, the level of a message
abbrev pub is_top : TextLine → Bool
is_top (Ended line) = get_or line 0 0 == 48
is_top (Unended line) = get_or line 0 0 == 48

-- the number of the first such line
abbrev pub first_top : List TextLine → ℕ
first_top [] = 1
first_top (x ∷ lines) = if is_top x then 1 else suc (first_top lines)

-- the reason of a ROSpec that a plan does not take
abbrev pub refusal_by : PlanFault → Refusal
refusal_by NotRoSpec = Name
refusal_by Value = Node node.Value
refusal_by TooLong = OverLimit

-- the text lists a parameter that a plan does not take
abbrev pub HasPlanFault : KindSet → List ℕ → Refusal → Type 0
HasPlanFault set text reason = (t : Tree) × (fault : PlanFault) × ListsRoSpec set text t × (plan_fault set t ≡ Some fault) × (reason ≡ refusal_by fault)

-- the text has no plan, for this reason
abbrev pub RefusesPlan : KindSet → List ℕ → PlanErr → Type 0
RefusesPlan set text (Line line reason) =
    IsRefusedFirst set text line reason ⊎ ((HasAnother set text × (line ≡ first_top (lines_of text)) × (reason ≡ Level)) ⊎ (HasPlanFault set text reason × (line ≡ 1)))
RefusesPlan set text Memory = Unit {0}
