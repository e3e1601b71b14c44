use Rattle.std.proofs.Common.{rules, ◌+◌, ◌++◌, ◌<◌, ◌^◌, ℕ, subst, sym}
use Rattle.std.proofs.lemmas.Result.{err_from_is_err_and}
use Rattle.llrp_endpoints.specs.declared.inventory.TheConstants.{MOST_LASTING_READS}
use Rattle.llrp_endpoints.specs.Gathering.{beginning}
use Rattle.llrp_endpoints.specs.Calls.GatheringStands.{further}
use Rattle.llrp_endpoints.specs.Private.Reads.{GivenWithin}
use Rattle.llrp_endpoints.specs.RunInventory.{ReadAllWithin}
use Rattle.llrp_endpoints.proofs.WatchRuns.{at_the_end, begins, goes_on, run_closed, run_failed, unread}
use Rattle.llrp_endpoints.proofs.watching.watch.Goals as goal

pub loop-piece-init : goal.loop-piece-init
loop-piece-init g c = begins _ _ _ _ _ _ _ c.new-pieces.ensures c.requires.no_frames c.requires.no_lines c.requires.sink

pub returns-in_err-piece : goal.returns-in_err-piece
returns-in_err-piece g c = λ limit plan opened.
    let f = c.loop-piece.invariant in
    let p = err_from_is_err_and c.from_residual.result c.from_residual.ensures.1 in
    rw (p.1, p.2) (unread limit plan _ _ f.bytes _ _ _ _ c.loop-piece.gathering _ (f.follows limit plan opened) (c.in_err-piece.ensures.next _ _ f.given))

pub returns : goal.returns
returns g c = λ limit plan opened.
    let f = c.loop-piece.invariant in
    let all : ReadAllWithin MOST_LASTING_READS (g.R.Source.log c.args.r.now) (g.R.Source.log c.next.new.r) f.bytes = search rules in
    at_the_end limit plan _ _ f.bytes _ _ _ _ c.loop-piece.gathering (f.follows limit plan opened) all

pub returns-in_err-take_turn : goal.returns-in_err-take_turn
returns-in_err-take_turn g c = λ limit plan opened.
    let f = c.loop-piece.invariant in
    let so = f.follows limit plan opened in
    let p = err_from_is_err_and c.from_residual-in_err-take_turn.result c.from_residual-in_err-take_turn.ensures.1 in
    let given : GivenWithin MOST_LASTING_READS (g.R.Source.log c.args.r.now) (g.R.Source.log c.next.new.r) (c.loop-piece.pieces.reads + 1) (f.bytes ++ c.in-Some.piece.now) = rw c.in-Some.is at (c.in_ok-piece.ensures.next _ _ f.given) in
    rw (p.1, p.2)
    (run_failed limit plan _ _ _ f.bytes c.in-Some.piece.now _ _ _ _ _ _ c.loop-piece.gathering c.in_err-take_turn.field-0.0 so given (c.in_err-take_turn.ensures.takes (further (beginning limit plan) so.course) so.rest so.opened))

pub returns-then-branch : goal.returns-then-branch
returns-then-branch g c = λ limit plan opened.
    let f = c.loop-piece.invariant in
    let so = f.follows limit plan opened in
    let given : GivenWithin MOST_LASTING_READS (g.R.Source.log c.args.r.now) (g.R.Source.log c.next.new.r) (c.loop-piece.pieces.reads + 1) (f.bytes ++ c.in-Some.piece.now) = rw c.in-Some.is at (c.in_ok-piece.ensures.next _ _ f.given) in
    run_closed limit plan _ _ _ f.bytes c.in-Some.piece.now _ _ _ _ _ _ c.loop-piece.gathering c.take_turn.new.gathering c.in_ok-take_turn.field-0 c.summary.result so given (c.in_ok-take_turn.ensures.takes (further (beginning limit plan) so.course) so.rest so.opened) c.if-branch.true c.summary.ensures

pub loop-piece-preserved : goal.loop-piece-preserved
loop-piece-preserved g c =
    let fresh = subst (λ (n : ℕ). n < 2 ^ 63) (sym c.in_ok-take_turn.ensures.sink) c.loop-piece.invariant.sink in
    goes_on _ _ _ _ _ _ _ _ _ _ _ c.args.gathering.now c.loop-piece.gathering c.take_turn.new.gathering c.loop-piece.out.items c.take_turn.new.out.items c.loop-piece.lines.items c.take_turn.new.lines.items c.in-Some.piece.now c.in_ok-take_turn.field-0 c.loop-piece.invariant (search rules)
    c.in_ok-take_turn.ensures.takes c.if-branch.false c.in_ok-take_turn.ensures.no_frames c.in_ok-take_turn.ensures.no_lines fresh
