use Rattle.std.proofs.Common.{Ok, refl}
use Rattle.std.proofs.lemmas.Result.{err_from_is_err_and}
use Rattle.llrp_live.specs.Calls.Living.{begun}
use Rattle.llrp_general.specs.Calls.Serving.{all_dated}
use Rattle.llrp_general.proofs.PartLemmas.{from_none, fetched, not_fed, not_fed_then}
use Rattle.llrp_general.proofs.serving.WholeReader.fetch.Goals as goal

pub returns-in-Err-clause-fetches : goal.returns-in-Err-clause-fetches
returns-in-Err-clause-fetches c = λ s others bytes messages items f are.
    (refl, not_fed s others bytes c.args.part.now messages items c.args.self.now f c.args.self.now.moment c.feed.new.self c.feed.new.out.items c.args.item.now are refl c.in-Err.field-0 (rw c.new-said.ensures.items at (c.in-Err.ensures.feeds (begun s.reader s.answers) (all_dated f.done) bytes items f.lives)))

pub returns-in_err-take-clause-fetches : goal.returns-in_err-take-clause-fetches
returns-in_err-take-clause-fetches c =
    let p = err_from_is_err_and c.from_residual.result c.from_residual.ensures.1 in
    rw (p.1, p.2) (λ s others bytes messages items f are.
    (refl, not_fed_then s others bytes c.args.part.now messages items c.args.self.now f c.args.self.now.moment c.feed.new.self c.feed.new.out.items c.args.item.now are refl c.in-Ok.closes (from_none s others bytes c.args.part.now messages items c.args.self.now f c.args.self.now.moment c.feed.new.self c.feed.new.out.items c.new-said.result.items (Ok c.in-Ok.closes) c.new-said.ensures.items (c.in-Ok.ensures.feeds (begun s.reader s.answers) (all_dated f.done) bytes items f.lives))))

pub returns-in_err-placed-clause-fetches : goal.returns-in_err-placed-clause-fetches
returns-in_err-placed-clause-fetches c =
    let p = err_from_is_err_and c.from_residual-in_err-placed.result c.from_residual-in_err-placed.ensures.1 in
    rw (p.1, p.2) (λ s others bytes messages items f are.
    (refl, not_fed_then s others bytes c.args.part.now messages items c.args.self.now f c.args.self.now.moment c.feed.new.self c.feed.new.out.items c.args.item.now are refl c.in-Ok.closes (from_none s others bytes c.args.part.now messages items c.args.self.now f c.args.self.now.moment c.feed.new.self c.feed.new.out.items c.new-said.result.items (Ok c.in-Ok.closes) c.new-said.ensures.items (c.in-Ok.ensures.feeds (begun s.reader s.answers) (all_dated f.done) bytes items f.lives))))

pub returns-in_err-append-clause-fetches : goal.returns-in_err-append-clause-fetches
returns-in_err-append-clause-fetches c =
    let p = err_from_is_err_and c.from_residual-in_err-append.result c.from_residual-in_err-append.ensures.1 in
    rw (p.1, p.2) (λ s others bytes messages items f are.
    (refl, not_fed_then s others bytes c.args.part.now messages items c.args.self.now f c.args.self.now.moment c.feed.new.self c.feed.new.out.items c.args.item.now are refl c.in-Ok.closes (from_none s others bytes c.args.part.now messages items c.args.self.now f c.args.self.now.moment c.feed.new.self c.feed.new.out.items c.new-said.result.items (Ok c.in-Ok.closes) c.new-said.ensures.items (c.in-Ok.ensures.feeds (begun s.reader s.answers) (all_dated f.done) bytes items f.lives))))

pub returns-clause-fetches : goal.returns-clause-fetches
returns-clause-fetches c = λ s others bytes messages items f are.
    fetched s others bytes c.args.part.now messages items c.args.self.now f c.args.self.now.moment c.feed.new.self c.feed.new.out.items c.args.item.now are refl c.in-Ok.closes (from_none s others bytes c.args.part.now messages items c.args.self.now f c.args.self.now.moment c.feed.new.self c.feed.new.out.items c.new-said.result.items (Ok c.in-Ok.closes) c.new-said.ensures.items (c.in-Ok.ensures.feeds (begun s.reader s.answers) (all_dated f.done) bytes items f.lives))
    _ c.in_ok-placed.placed.items c.args.sent.now.items c.append.new.self.items refl c.in_ok-placed.ensures c.in_ok-append.ensures.items
