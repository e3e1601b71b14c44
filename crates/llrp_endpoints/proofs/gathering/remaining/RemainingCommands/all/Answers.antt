use Rattle.std.proofs.Common.{◌++◌, ◌∷◌, ◌∙◌, ap, sym, true, false, ℕ, Bool}
use Rattle.llrp_session.specs.declared.types.Command.TheVariants.{Delete}
use Rattle.llrp_endpoints.specs.declared.course.Step.TheVariants.{Send}
use Rattle.llrp_endpoints.specs.Calls.GatheringStands.{keeps_then_adds}
use Rattle.llrp_endpoints.specs.Plan.{cleaning, rospec_id, steps}
use Rattle.llrp_endpoints.proofs.gathering.remaining.RemainingCommands.all.Goals as goal

pub returns-then-cleans : goal.returns-then-cleans
unfolding steps
returns-then-cleans c = ap (λ (b : Bool). cleaning b c.args.plan.renews (rospec_id c.args.plan) ++ keeps_then_adds c.args.plan) (sym c.if-cleans.true ∙ c.cleans.ensures)

pub returns-then-renews : goal.returns-then-renews
unfolding steps
returns-then-renews c =
    let plan = c.args.plan in
    ap (λ (n : ℕ). Send (Delete n) ∷ keeps_then_adds plan) c.rospec_id-id.ensures
    ∙ ap (λ (b : Bool). cleaning b true (rospec_id plan) ++ keeps_then_adds plan) (sym c.if-cleans.false ∙ c.cleans.ensures)
    ∙ ap (λ (b : Bool). cleaning plan.cleans b (rospec_id plan) ++ keeps_then_adds plan) (sym c.if-renews.true ∙ c.renews.ensures)

pub returns-else-renews : goal.returns-else-renews
unfolding steps
returns-else-renews c =
    let plan = c.args.plan in
    c.after_cleaning.ensures
    ∙ ap (λ (b : Bool). cleaning b false (rospec_id plan) ++ keeps_then_adds plan) (sym c.if-cleans.false ∙ c.cleans.ensures)
    ∙ ap (λ (b : Bool). cleaning plan.cleans b (rospec_id plan) ++ keeps_then_adds plan) (sym c.if-renews.false ∙ c.renews.ensures)
