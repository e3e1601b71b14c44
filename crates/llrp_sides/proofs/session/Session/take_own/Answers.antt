use Rattle.std.proofs.Common.{◌∙◌, sym}
use Rattle.llrp_sides.proofs.SessionLemmas.{given_step, goes_on, goes_over}
use Rattle.llrp_sides.proofs.session.Session.take_own.Goals as goal

pub close-requires-clause-in_step : goal.close-requires-clause-in_step
close-requires-clause-in_step c =
    let g = c.in_ok-give.ensures in
    given_step c.args.segment.now c.in_ok-place.place c.args.self.now c.open.new.self c.give.new.self g.0 c.args.text.now c.give.new.text c.in_ok-place.ensures g.2

pub returns-in_ok-close : goal.returns-in_ok-close
returns-in_ok-close c =
    let g = c.in_ok-give.ensures in
    goes_over c.args.segment.now c.in_ok-place.place c.args.self.now c.open.new.self c.give.new.self c.close.new.self g.0 c.args.text.now c.give.new.text c.close.new.text c.requires.heeded c.in_ok-place.ensures g.2 (sym g.1 ∙ c.if-branch.true) c.in_ok-close.ensures

pub returns-else-branch : goal.returns-else-branch
returns-else-branch c =
    let g = c.in_ok-give.ensures in
    goes_on c.args.segment.now c.in_ok-place.place c.args.self.now c.open.new.self c.give.new.self g.0 c.args.text.now c.give.new.text c.requires.heeded c.in_ok-place.ensures g.2 (sym g.1 ∙ c.if-branch.false)
