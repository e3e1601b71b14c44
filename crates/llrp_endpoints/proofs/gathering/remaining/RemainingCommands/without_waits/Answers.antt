use Rattle.std.proofs.Common.{◌∷◌, ◌∙◌, ap, List}
use Rattle.llrp_session.specs.declared.types.Command.TheVariants.{Delete, SetKeepalive, Add, Enable, Start}
use Rattle.llrp_endpoints.specs.declared.course.Step.{Step}
use Rattle.llrp_endpoints.specs.declared.course.Step.TheVariants.{Send}
use Rattle.llrp_endpoints.specs.declared.gathering.remaining.Later.{Later}
use Rattle.llrp_endpoints.specs.declared.gathering.remaining.RemainingCommands.TheVariants as left
use Rattle.llrp_endpoints.specs.Calls.GatheringStands.{awaiting, later_of, steps_left}
use Rattle.llrp_endpoints.specs.Plan.{Plan, rospec_id}
use Rattle.llrp_endpoints.proofs.HurryLemmas.{adds_hurried, awaiting_hurried, keeps_hurried, starts_hurried}
use Rattle.llrp_endpoints.proofs.gathering.remaining.RemainingCommands.without_waits.Goals as goal

pub returns-in-Cleaning : goal.returns-in-Cleaning
returns-in-Cleaning c = rw c.in-Cleaning.is
    (ap (λ (p : Plan). steps_left (left.Cleaning c.in-Cleaning.id p)) c.awaiting.ensures ∙ ap (λ (s : List Step). Send (Delete c.in-Cleaning.id) ∷ s) (keeps_hurried c.in-Cleaning.plan))

pub returns-in-Keeping : goal.returns-in-Keeping
returns-in-Keeping c = rw c.in-Keeping.is
    (ap (λ (p : Plan). steps_left (left.Keeping p)) c.awaiting-in-Keeping.ensures ∙ ap (λ (s : List Step). Send (SetKeepalive c.in-Keeping.plan.keepalive) ∷ s) (adds_hurried c.in-Keeping.plan))

pub returns-in-Adding : goal.returns-in-Adding
returns-in-Adding c =
    let plan = c.in-Adding.plan in
    rw c.in-Adding.is
    (ap (λ (p : Plan). steps_left (left.Adding p)) c.awaiting-in-Adding.ensures ∙ ap (λ (s : List Step). Send (Add plan.rospec) ∷ Send (Enable (rospec_id plan)) ∷ s) (starts_hurried (later_of plan)))

pub returns-in-Enabling : goal.returns-in-Enabling
returns-in-Enabling c = rw c.in-Enabling.is
    (ap (λ (l : Later). steps_left (left.Enabling l)) c.without_reports.ensures ∙ ap (λ (s : List Step). Send (Enable c.in-Enabling.later.id) ∷ s) (starts_hurried c.in-Enabling.later))

pub returns-in-Starting : goal.returns-in-Starting
returns-in-Starting c = rw c.in-Starting.is
    (ap (λ (l : Later). steps_left (left.Starting l)) c.without_reports-in-Starting.ensures ∙ ap (λ (s : List Step). Send (Start c.in-Starting.later.id) ∷ s) (awaiting_hurried c.in-Starting.later))

pub returns-in-Awaiting : goal.returns-in-Awaiting
returns-in-Awaiting c = rw c.in-Awaiting.is (ap awaiting c.without_reports-in-Awaiting.ensures ∙ awaiting_hurried c.in-Awaiting.later)
