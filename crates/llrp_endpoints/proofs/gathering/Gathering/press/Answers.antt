use Rattle.std.proofs.Common.{◌∙◌, ap}
use Rattle.llrp_endpoints.specs.declared.gathering.remaining.RemainingCommands.{RemainingCommands}
use Rattle.llrp_endpoints.specs.Gathering.{without_waits}
use Rattle.llrp_endpoints.specs.Calls.GatheringStands.{steps_left}
use Rattle.llrp_endpoints.proofs.HurryLemmas.{holds_hurried, wait_ends, wait_goes_on}
use Rattle.llrp_endpoints.proofs.gathering.Gathering.press.Goals as goal

pub returns-in-TaggedReport-clause-does : goal.returns-in-TaggedReport-clause-does
returns-in-TaggedReport-clause-does c = λ d r h opened.
    let g = c.args.self.now in
    let left = c.without_waits.ensures ∙ ap (λ (l : RemainingCommands). without_waits (steps_left l)) c.replace-left.ensures.value in
    wait_ends d g c.go_on.new.self c.args.out.now.items c.go_on.new.out.items r c.go_on.result h opened c.in-TaggedReport.is (c.go_on.ensures.does _ r (holds_hurried d g c.without_waits.result h left) opened)

pub returns-in_default-clause-does : goal.returns-in_default-clause-does
returns-in_default-clause-does c = λ d r h opened.
    let g = c.args.self.now in
    let left = c.without_waits.ensures ∙ ap (λ (l : RemainingCommands). without_waits (steps_left l)) c.replace-left.ensures.value in
    wait_goes_on d g c.without_waits.result c.args.out.now.items r h opened c.in_default.not-TaggedReport left
