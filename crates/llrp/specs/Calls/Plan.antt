-- The plan that the words ask for, and why they have none.
use Rattle.std.specs.Prelude.{◌≡◌, ℕ, ◌⊎◌, Bool, false, ◌&&◌, ◌||◌, ◌==◌, List, Option, Some, None, IfSome, IfNone, is_some, unwrap_or, Result, Ok, Err, codes, if◌then◌else◌}
use Rattle.llrp_tree.specs.Tree.{Tree}
use Rattle.llrp_stream.specs.Device.{SourceLog, SinkLog, Wrote, WroteAndFailed}
use Rattle.llrp_listing.specs.declared.outcome.ToolErr.{ToolErr}
use Rattle.llrp_listing.specs.declared.outcome.ToolErr.TheVariants as tool
use Rattle.llrp_listing.specs.Copying.{IsPrefix, ReadAll}
use Rattle.llrp_listing.specs.Calls.Copying.{ReadStopped}
use Rattle.llrp_endpoints.specs.declared.plan.text.PlanErr.TheVariants as text
use Rattle.llrp_schema.specs.declared.kinds.KindSet.{KindSet}
use Rattle.llrp_schema.specs.declared.kinds.KindSet.TheVariants.{Profile, Standard}
use Rattle.llrp_endpoints.specs.declared.form.LineForm.{LineForm}
use Rattle.llrp_endpoints.specs.declared.form.LineForm.TheVariants.{Words, Json}
use Rattle.llrp_endpoints.specs.Plan.{Plan}
use Rattle.llrp_endpoints.specs.Calls.Plans.{standard}
use Rattle.llrp_endpoints.specs.Calls.PlanTexts.{ListsRoSpec, RefusesPlan, given_in}
use Rattle.llrp_endpoints.specs.Calls.ReadRoSpec.{IsEnough}
use Rattle.llrp_commands.specs.Calls.Command.{error_line, refusal_line}
use Rattle.llrp_words.specs.declared.arguments.PlanWords.{PlanWords}
use Rattle.llrp.specs.declared.plan.NoPlan.{NoPlan}
use Rattle.llrp.specs.declared.plan.NoPlan.TheVariants.{Unread, Line, Memory}

-- how many tags make a report: each does where reports are awaited, unless --every says otherwise
abbrev pub asked_every : PlanWords → ℕ
asked_every words = unwrap_or words.every (if is_some words.reports then 1 else 0)

-- how often reports are asked for: once, or not at all where reports are awaited, unless --polls says otherwise
abbrev pub asked_polls : PlanWords → ℕ
asked_polls words = unwrap_or words.polls (if is_some words.reports then 0 else 1)

-- the form of its lines, and the set of kinds that its reader's messages are read in
abbrev pub asked_form : PlanWords → LineForm
asked_form words = if words.json then Json else Words

abbrev pub asked_set : PlanWords → KindSet
asked_set words = if words.all then Standard else Profile

-- a plan with what the words ask of every plan
abbrev pub with_options : PlanWords → Plan → Plan
with_options words plan = record plan { cleans = plan.cleans || words.clean; reports = unwrap_or words.reports 0; form = asked_form words; set = asked_set words }

-- the plan with the ROSpec of a standard plan
abbrev pub asked_plan : PlanWords → Plan
asked_plan words = with_options words (standard (asked_every words) (asked_polls words) words.check)

-- ---- words that have no plan

-- the number 0 is given
abbrev pub is_zero : Option ℕ → Bool
is_zero None = false
is_zero (Some n) = n == 0

-- reports are awaited of a ROSpec that would report at its end alone
abbrev pub never_reports : PlanWords → Bool
never_reports words = is_some words.reports && is_zero words.every

-- ---- a ROSpec that is read

-- Why there is no plan: reading failed or took too many reads; a line is refused of all that the source gave, or of so much that no text which begins so
-- has a plan; or memory ran out.
abbrev pub HasNoPlan : KindSet → SourceLog → SourceLog → NoPlan → Type 0
HasNoPlan set r0 r1 Unread = (front : List ℕ) × (ReadStopped r0 r1 front tool.Read ⊎ ReadStopped r0 r1 front tool.Bound)
HasNoPlan set r0 r1 (Line line reason) = (bytes : List ℕ) × IsEnough r0 r1 bytes × RefusesPlan set bytes (text.Line line reason)
HasNoPlan set r0 r1 Memory = (bytes : List ℕ) × (ReadStopped r0 r1 bytes tool.Memory ⊎ IsEnough r0 r1 bytes)

-- What reading a plan's ROSpec answers: a plan with the ROSpec that all of the source lists, with --all one of the whole standard, and all else as the words say; or why there is none.
abbrev pub ReadsPlan : PlanWords → SourceLog → SourceLog → Result Plan NoPlan → Type 0
ReadsPlan words r0 r1 (Ok plan) =
    (bytes : List ℕ) × (t : Tree) × ReadAll r0 r1 bytes × ListsRoSpec (asked_set words) bytes t
    × (plan ≡ with_options words (given_in (asked_set words) t (asked_polls words) words.check))
ReadsPlan words r0 r1 (Err no_plan) = HasNoPlan (asked_set words) r0 r1 no_plan

-- The plan of a command, or why it has none: without a file it is that of the words; with one, what is read in some text.
abbrev pub OpensPlan : PlanWords → Result Plan NoPlan → Type 0
OpensPlan words (Ok plan) =
    IfNone words.rospec (plan ≡ asked_plan words) × IfSome words.rospec (λ path. (r0 r1 : SourceLog) × ReadsPlan words r0 r1 (Ok plan))
OpensPlan words (Err no_plan) = IfNone words.rospec (no_plan ≡ Memory)

-- ---- how a command without a plan ends

abbrev pub no_plan_line : NoPlan → List ℕ
no_plan_line Unread = codes "llrp: rospec\n"
no_plan_line (Line line reason) = refusal_line (codes "llrp: rospec line ") line reason
no_plan_line Memory = error_line tool.Memory

abbrev pub no_plan_status : NoPlan → ℕ
no_plan_status Unread = 3
no_plan_status (Line line reason) = 1
no_plan_status Memory = 3

-- The line was written to the sink for errors, and this is the status; or the Write that stopped the line.
abbrev pub Refuses : NoPlan → SinkLog → SinkLog → Result ℕ ToolErr → Type 0
Refuses no_plan e0 e1 (Ok status) = (status ≡ no_plan_status no_plan) × Wrote e0 e1 (no_plan_line no_plan)
Refuses no_plan e0 e1 (Err fault) = (fault ≡ tool.Write) × (front : List ℕ) × IsPrefix front (no_plan_line no_plan) × WroteAndFailed e0 e1 front
