use Rattle.std.proofs.Common.{◌≡◌, ◌∙◌, true, false, refl, sym, ap, subst, List, Ok}
use Rattle.std.specs.Prelude.{◌&&◌}
use Rattle.llrp_stream.specs.declared.item.Item.{Item}
use Rattle.llrp_stream.specs.declared.item.Item.TheVariants.{Bad}
use Rattle.llrp_session.specs.ClientMachine.{Client}
use Rattle.llrp_endpoints.specs.Gathering.{follow, is_odd}
use Rattle.llrp_endpoints.specs.Private.GatheringStands.{Does}
use Rattle.llrp_endpoints.proofs.GatheringSteps.{passed}
use Rattle.llrp_endpoints.proofs.OddLemmas.{takes_fault, takes_no_fault}
use Rattle.llrp_endpoints.proofs.gathering.Gathering.take.Goals as goal

pub returns-in-Msg-clause-does : goal.returns-in-Msg-clause-does
returns-in-Msg-clause-does c = λ d h opened. rw c.in-Msg.is (c.take_part.ensures.does d h opened)

pub returns-then-passes_frame-clause-does : goal.returns-then-passes_frame-clause-does
returns-then-passes_frame-clause-does c = λ d h opened.
    let g = c.args.self.now in
    let o = c.args.out.now.items in
    let r = c.args.report.now.items in
    let id = c.in-Bad.id in
    let fault = c.in-Bad.fault in
    let odd : (g.hearing.passes && is_odd d.client (Bad id fault)) ≡ true = ap (λ (a : Client). g.hearing.passes && is_odd a (Bad id fault)) (sym h.client_is) ∙ sym (c.passes_frame.ensures fault) ∙ c.if-passes_frame.true in
    rw c.in-Bad.is (subst (λ (items : List Item). Does d (follow items d) c.pass_over.new.self o o r r (Ok false)) (sym (takes_no_fault g.hearing id fault d odd)) (passed d c.pass_over.new.self o r (c.pass_over.ensures.holds d h) opened))

pub returns-else-passes_frame-clause-does : goal.returns-else-passes_frame-clause-does
returns-else-passes_frame-clause-does c = λ d h opened.
    let g = c.args.self.now in
    let o = c.args.out.now.items in
    let r = c.args.report.now.items in
    let id = c.in-Bad.id in
    let fault = c.in-Bad.fault in
    let even : (g.hearing.passes && is_odd d.client (Bad id fault)) ≡ false = ap (λ (a : Client). g.hearing.passes && is_odd a (Bad id fault)) (sym h.client_is) ∙ sym (c.passes_frame.ensures fault) ∙ c.if-passes_frame.false in
    rw c.in-Bad.is (subst (λ (items : List Item). Does d (follow items d) g o o r r c.take_bad.result) (sym (takes_fault g.hearing id fault d even)) (c.take_bad.ensures d o r id fault refl h opened))
