use Rattle.std.proofs.Common.{Ok, refl}
use Rattle.std.proofs.lemmas.Result.{err_from_is_err_and}
use Rattle.llrp_live.specs.Calls.Living.{begun}
use Rattle.llrp_general.specs.Calls.Serving.{all_dated}
use Rattle.llrp_general.proofs.PartLemmas.{from_none, held, not_held, not_held_then}
use Rattle.llrp_general.proofs.serving.WholeReader.hold.Goals as goal

pub returns-in-Err-clause-holds : goal.returns-in-Err-clause-holds
returns-in-Err-clause-holds c = λ s others bytes rest messages items f are partial.
    (refl, not_held s others bytes c.args.part.now messages items c.args.self.now f c.args.self.now.moment c.feed.new.self c.feed.new.out.items rest are partial c.in-Err.field-0 (rw c.new-said.ensures.items at (c.in-Err.ensures.feeds (begun s.reader s.answers) (all_dated f.done) bytes items f.lives)))

pub returns-in_err-take-clause-holds : goal.returns-in_err-take-clause-holds
returns-in_err-take-clause-holds c =
    let p = err_from_is_err_and c.from_residual.result c.from_residual.ensures.1 in
    rw (p.1, p.2) (λ s others bytes rest messages items f are partial.
    (refl, not_held_then s others bytes c.args.part.now messages items c.args.self.now f c.args.self.now.moment c.feed.new.self c.feed.new.out.items rest are partial c.in-Ok.field-0 (from_none s others bytes c.args.part.now messages items c.args.self.now f c.args.self.now.moment c.feed.new.self c.feed.new.out.items c.new-said.result.items (Ok c.in-Ok.field-0) c.new-said.ensures.items (c.in-Ok.ensures.feeds (begun s.reader s.answers) (all_dated f.done) bytes items f.lives))))

pub returns-clause-holds : goal.returns-clause-holds
returns-clause-holds c = λ s others bytes rest messages items f are partial.
    held s others bytes c.args.part.now messages items c.args.self.now f c.args.self.now.moment c.feed.new.self c.feed.new.out.items rest are partial c.in-Ok.field-0 (from_none s others bytes c.args.part.now messages items c.args.self.now f c.args.self.now.moment c.feed.new.self c.feed.new.out.items c.new-said.result.items (Ok c.in-Ok.field-0) c.new-said.ensures.items (c.in-Ok.ensures.feeds (begun s.reader s.answers) (all_dated f.done) bytes items f.lives)) _ refl refl refl refl
