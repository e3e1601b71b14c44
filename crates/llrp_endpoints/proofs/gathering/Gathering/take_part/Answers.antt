use Rattle.std.proofs.Common.{◌≡◌, [], ◌∷◌, ◌∙◌, true, false, List, Ok, sym, ap, subst}
use Rattle.std.specs.Prelude.{◌&&◌, Some}
use Rattle.std.proofs.lemmas.Result.{err_from_is_err_and}
use Rattle.llrp_stream.specs.declared.item.Item.{Item}
use Rattle.llrp_stream.specs.declared.item.Item.TheVariants.{Msg}
use Rattle.llrp_session.specs.ClientMachine.{Client}
use Rattle.llrp_endpoints.specs.Gathering.{Course, follow, is_odd, taken}
use Rattle.llrp_endpoints.specs.Heard.{heard_message}
use Rattle.llrp_endpoints.specs.Private.GatheringStands.{Does}
use Rattle.llrp_endpoints.proofs.GatheringSteps.{out_of_memory, passed}
use Rattle.llrp_endpoints.proofs.HeardLemmas.{follows_one}
use Rattle.llrp_endpoints.proofs.OddLemmas.{takes_message, takes_no_message, takes_nothing}
use Rattle.llrp_endpoints.proofs.PlanCourses.{follow_more}
use Rattle.llrp_endpoints.proofs.gathering.Gathering.take_part.Goals as goal

pub returns-in_err-part-clause-does : goal.returns-in_err-part-clause-does
returns-in_err-part-clause-does c = λ d h opened.
    let p = err_from_is_err_and c.from_residual.result c.from_residual.ensures.1 in
    let items : List Item = taken c.args.self.now.hearing (Msg c.args.message ∷ []) d in
    rw (p.1, p.2) (out_of_memory d (follow items d) c.args.out.now.items c.args.report.now.items (follow_more items d))

pub returns-in-None-clause-does : goal.returns-in-None-clause-does
returns-in-None-clause-does c = λ d h opened.
    let g = c.args.self.now in
    let o = c.args.out.now.items in
    let r = c.args.report.now.items in
    subst (λ (items : List Item). Does d (follow items d) g o o r r (Ok false)) (sym (takes_nothing g.hearing c.args.message d (sym c.in_ok-part.ensures ∙ c.in-None.is))) (passed d g o r h opened)

pub returns-then-passes-clause-does : goal.returns-then-passes-clause-does
returns-then-passes-clause-does c = λ d h opened.
    let g = c.args.self.now in
    let o = c.args.out.now.items in
    let r = c.args.report.now.items in
    let part = c.in-Some.part in
    let is : heard_message g.hearing c.args.message ≡ Some part = sym c.in_ok-part.ensures ∙ c.in-Some.is in
    let odd : (g.hearing.passes && is_odd d.client (Msg part)) ≡ true = ap (λ (a : Client). g.hearing.passes && is_odd a (Msg part)) (sym h.client_is) ∙ sym c.passes.ensures ∙ c.if-passes.true in
    subst (λ (items : List Item). Does d (follow items d) c.pass_over.new.self o o r r (Ok false)) (sym (takes_no_message g.hearing c.args.message part d is odd)) (passed d c.pass_over.new.self o r (c.pass_over.ensures.holds d h) opened)

pub returns-else-passes-clause-does : goal.returns-else-passes-clause-does
returns-else-passes-clause-does c = λ d h opened.
    let g = c.args.self.now in
    let part = c.in-Some.part in
    let is : heard_message g.hearing c.args.message ≡ Some part = sym c.in_ok-part.ensures ∙ c.in-Some.is in
    let even : (g.hearing.passes && is_odd d.client (Msg part)) ≡ false = ap (λ (a : Client). g.hearing.passes && is_odd a (Msg part)) (sym h.client_is) ∙ sym c.passes.ensures ∙ c.if-passes.false in
    let one = subst (λ (e : Course). Does d e c.take_message.new.self c.args.out.now.items c.take_message.new.out.items c.args.report.now.items c.take_message.new.report.items c.take_message.result) (follows_one (Msg part) d opened) (c.take_message.ensures.does d h opened) in
    subst (λ (items : List Item). Does d (follow items d) c.take_message.new.self c.args.out.now.items c.take_message.new.out.items c.args.report.now.items c.take_message.new.report.items c.take_message.result) (sym (takes_message g.hearing c.args.message part d is even)) one
