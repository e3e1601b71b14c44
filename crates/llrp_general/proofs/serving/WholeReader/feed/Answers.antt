use Rattle.std.proofs.Common.{Err, Ok, refl, arith}
use Rattle.std.proofs.lemmas.Bool.Decides.{nat_tests}
use Rattle.std.proofs.lemmas.Result.{err_from_is_err_and}
use Rattle.llrp_general.proofs.PieceLemmas.{all_taken, closing_so, failed_so, failing_so, held_so, not_held_so, open_so, so_far_none, took, went_on}
use Rattle.llrp_general.proofs.serving.WholeReader.feed.Goals as goal

pub loop-rest-init : goal.loop-rest-init
loop-rest-init c = λ s others bytes messages h. so_far_none s others bytes messages c.args.piece.now c.args.sent.now.items c.args.self.now h

pub returns-in-Err : goal.returns-in-Err
returns-in-Err c = λ s others bytes messages h. rw c.end_of.ensures (failed_so s others bytes messages c.args.piece.now c.loop-rest.rest.now c.args.sent.now.items c.loop-rest.sent.items c.loop-rest.self (c.loop-rest.invariant s others bytes messages h) c.feed.new.self _ c.in-Err.error refl c.in-Err.ensures.stands_in)

pub returns-in_err-hold : goal.returns-in_err-hold
returns-in_err-hold c =
    let p = err_from_is_err_and c.from_residual.result c.from_residual.ensures.1 in
    rw (p.1, p.2) (λ s others bytes messages h.
    not_held_so s others bytes messages c.args.piece.now c.loop-rest.rest.now c.args.sent.now.items c.loop-rest.sent.items c.loop-rest.self (c.loop-rest.invariant s others bytes messages h) c.in-Ok.fed c.feed.new.self c.in-Ok.ensures.stands_in c.in_default.is c.hold.new.self c.in_err-hold.field-0.0
    (held_so s others bytes messages c.args.piece.now c.loop-rest.rest.now c.args.sent.now.items c.loop-rest.sent.items c.loop-rest.self (c.loop-rest.invariant s others bytes messages h) c.in-Ok.fed c.feed.new.self c.in-Ok.ensures.stands_in c.in_default.is _ c.hold.new.self (Err c.in_err-hold.field-0.0) c.in_err-hold.ensures.holds refl refl refl refl))

pub returns-in_default : goal.returns-in_default
returns-in_default c = λ s others bytes messages h.
    let f = c.loop-rest.invariant s others bytes messages h in (
      f.more,
      f.sent,
      went_on s others bytes messages c.args.piece.now c.loop-rest.rest.now c.args.sent.now.items c.loop-rest.sent.items c.loop-rest.self (c.loop-rest.invariant s others bytes messages h) c.in-Ok.fed c.feed.new.self c.in-Ok.ensures.stands_in c.in_default.is c.hold.new.self
          (held_so s others bytes messages c.args.piece.now c.loop-rest.rest.now c.args.sent.now.items c.loop-rest.sent.items c.loop-rest.self (c.loop-rest.invariant s others bytes messages h) c.in-Ok.fed c.feed.new.self c.in-Ok.ensures.stands_in c.in_default.is _ c.hold.new.self (Ok tt) c.in_ok-hold.ensures.holds refl refl refl refl) c.in_ok-hold.ensures.decoder c.in-Ok.ensures.limit,
    )

pub returns-in_err-take : goal.returns-in_err-take
returns-in_err-take c =
    let p = err_from_is_err_and c.from_residual-in_err-take.result c.from_residual-in_err-take.ensures.1 in
    rw (p.1, p.2) (λ s others bytes messages h.
    failing_so s others bytes messages c.args.piece.now c.loop-rest.rest.now c.args.sent.now.items c.loop-rest.sent.items c.loop-rest.self (c.loop-rest.invariant s others bytes messages h) c.in-Ok.fed c.in-Some.item c.feed.new.self c.in-Ok.ensures.stands_in c.in-Some.is c.take.new.self c.take.new.sent.items c.in_err-take.field-0.0
    (took s others bytes messages c.args.piece.now c.loop-rest.rest.now c.args.sent.now.items c.loop-rest.sent.items c.loop-rest.self (c.loop-rest.invariant s others bytes messages h) c.in-Ok.fed c.in-Some.item c.feed.new.self c.in-Ok.ensures.stands_in c.in-Some.is c.split_at.result.0.now _ c.take.new.self c.take.new.sent.items (Err c.in_err-take.field-0.0) c.split_at.ensures.front c.in_err-take.ensures.takes refl refl refl refl))

pub returns-then-branch : goal.returns-then-branch
returns-then-branch c = λ s others bytes messages h.
    closing_so s others bytes messages c.args.piece.now c.loop-rest.rest.now c.args.sent.now.items c.loop-rest.sent.items c.loop-rest.self (c.loop-rest.invariant s others bytes messages h) c.in-Ok.fed c.in-Some.item c.feed.new.self c.in-Ok.ensures.stands_in c.in-Some.is c.take.new.self c.take.new.sent.items c.in_ok-take.field-0 c.if-branch.true
    (took s others bytes messages c.args.piece.now c.loop-rest.rest.now c.args.sent.now.items c.loop-rest.sent.items c.loop-rest.self (c.loop-rest.invariant s others bytes messages h) c.in-Ok.fed c.in-Some.item c.feed.new.self c.in-Ok.ensures.stands_in c.in-Some.is c.split_at.result.0.now _ c.take.new.self c.take.new.sent.items (Ok c.in_ok-take.field-0) c.split_at.ensures.front c.in_ok-take.ensures.takes refl refl refl refl)

pub loop-rest-preserved : goal.loop-rest-preserved
loop-rest-preserved c = λ s others bytes messages h.
    open_so s others bytes messages c.args.piece.now c.loop-rest.rest.now c.args.sent.now.items c.loop-rest.sent.items c.loop-rest.self (c.loop-rest.invariant s others bytes messages h) c.in-Ok.fed c.in-Some.item c.feed.new.self c.in-Ok.ensures.stands_in c.in-Some.is c.take.new.self c.split_at.result.1.now c.take.new.sent.items c.in_ok-take.field-0 c.if-branch.false
    (took s others bytes messages c.args.piece.now c.loop-rest.rest.now c.args.sent.now.items c.loop-rest.sent.items c.loop-rest.self (c.loop-rest.invariant s others bytes messages h) c.in-Ok.fed c.in-Some.item c.feed.new.self c.in-Ok.ensures.stands_in c.in-Some.is c.split_at.result.0.now _ c.take.new.self c.take.new.sent.items (Ok c.in_ok-take.field-0) c.split_at.ensures.front c.in_ok-take.ensures.takes refl refl refl refl) c.in_ok-take.ensures.decoder c.in-Ok.ensures.limit c.split_at.ensures.back

pub loop-rest-preserved-else-branch : goal.loop-rest-preserved-else-branch
loop-rest-preserved-else-branch c = λ s others bytes messages h.
    open_so s others bytes messages c.args.piece.now c.loop-rest.rest.now c.args.sent.now.items c.loop-rest.sent.items c.loop-rest.self (c.loop-rest.invariant s others bytes messages h) c.in-Ok.fed c.in-Some.item c.feed.new.self c.in-Ok.ensures.stands_in c.in-Some.is c.take.new.self c.split_at.result.1.now c.take.new.sent.items c.in_ok-take.field-0 c.if-branch.false
    (took s others bytes messages c.args.piece.now c.loop-rest.rest.now c.args.sent.now.items c.loop-rest.sent.items c.loop-rest.self (c.loop-rest.invariant s others bytes messages h) c.in-Ok.fed c.in-Some.item c.feed.new.self c.in-Ok.ensures.stands_in c.in-Some.is c.split_at.result.0.now _ c.take.new.self c.take.new.sent.items (Ok c.in_ok-take.field-0) c.split_at.ensures.front c.in_ok-take.ensures.takes refl refl refl refl) c.in_ok-take.ensures.decoder c.in-Ok.ensures.limit c.split_at.ensures.back

pub returns : goal.returns
returns c = λ s others bytes messages h.
    let f = c.loop-rest.invariant s others bytes messages h in
    (f.more, f.sent, all_taken s others bytes messages c.args.piece.now c.loop-rest.rest.now c.args.sent.now.items c.loop-rest.sent.items c.loop-rest.self (c.loop-rest.invariant s others bytes messages h) (grind (arith, nat_tests)))
