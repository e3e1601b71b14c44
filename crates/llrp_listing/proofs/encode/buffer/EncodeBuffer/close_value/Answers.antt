use Rattle.std.proofs.Common.{◌∙◌, arith, sym}
use Rattle.std.proofs.lemmas.Result.{err_from_is_err_and}
use Rattle.llrp_listing.specs.Private.EncodeBuffer.{row_count}
use Rattle.llrp_listing.proofs.ValueSteps.{closed_one, closed_plain, fails_one, held_long, plain_long}
use Rattle.llrp_listing.proofs.encode.buffer.EncodeBuffer.close_value.Goals as goal

pub close_top-requires : goal.close_top-requires
close_top-requires c =
    let x = c.requires.some in
    (x.0, x.1, x.2, x.3, omega (arith, c.has_value.ensures.yes c.if-has_value.true, held_long c.args.self.now c.args.at x.0 x.1 x.2 x.3, c.requires.least))

pub returns-in_err-close_top-clause-stopped : goal.returns-in_err-close_top-clause-stopped
returns-in_err-close_top-clause-stopped c =
    let p = err_from_is_err_and c.from_residual.result c.from_residual.ensures.1 in
    rw (p.1, p.2) (λ limit out more ns h.
    let old = c.args.self.now in
    fails_one old c.args.at (row_count old.rows) limit out more ns c.in_err-close_top.field-0.0 c.in_err-close_top.ensures.stopped c.requires.least h (omega (arith, c.has_value.ensures.yes c.if-has_value.true, held_long old c.args.at out more ns h)))

pub returns-in_ok-close_top-clause-closed : goal.returns-in_ok-close_top-clause-closed
returns-in_ok-close_top-clause-closed c = λ out more ns h.
    let old = c.args.self.now in
    closed_one old c.close_top.new.self c.args.at (row_count old.rows) out more ns c.in_ok-close_top.ensures.closed c.requires.least h (omega (arith, c.has_value.ensures.yes c.if-has_value.true, held_long old c.args.at out more ns h))

pub returns-else-has_value-clause-closed : goal.returns-else-has_value-clause-closed
returns-else-has_value-clause-closed c = λ out more ns h.
    let old = c.args.self.now in
    closed_plain old c.args.at (row_count old.rows) out more ns h (omega (arith, plain_long old.rows (c.has_value.ensures.no c.if-has_value.false), held_long old c.args.at out more ns h))
