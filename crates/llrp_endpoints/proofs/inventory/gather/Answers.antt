use Rattle.std.proofs.Common.{rules, ◌+◌, ◌++◌, Ok, Err}
use Rattle.std.proofs.lemmas.Result.{err_from_is_err_and}
use Rattle.llrp_endpoints.specs.RunInventory.{ReadAllWithin}
use Rattle.llrp_endpoints.specs.Private.Reads.{GivenWithin}
use Rattle.llrp_endpoints.proofs.InventoryLemmas.{begins, so_far, read_none, at_the_end, piece, sent_in_part, told_in_part, piece_failed, piece_closed, piece_open}
use Rattle.llrp_endpoints.proofs.inventory.gather.Goals as goal

pub loop-piece-init : goal.loop-piece-init
loop-piece-init g c = begins c.args.most _ _ _ _ _ _ _ c.new-pieces.ensures c.requires.no_frames c.requires.no_lines

pub returns-in_err-piece : goal.returns-in_err-piece
returns-in_err-piece g c =
    λ limit plan opened.
    let f = c.loop-piece.invariant in
    let p = err_from_is_err_and c.from_residual.result c.from_residual.ensures.1 in
    rw (p.1, p.2) (read_none c.args.most limit plan _ _ f.bytes _ _ _ _ c.loop-piece.gathering c.loop-piece.out.items c.loop-piece.lines.items _ (so_far c.args.most limit plan _ _ _ _ _ _ _ _ _ _ _ f opened) (c.in_err-piece.ensures.next _ _ f.given))

pub returns : goal.returns
returns g c =
    λ limit plan opened.
    let f = c.loop-piece.invariant in
    let all : ReadAllWithin c.args.most (g.R.Source.log c.args.r.now) (g.R.Source.log c.next.new.r) f.bytes = search rules in
    at_the_end c.args.most limit plan _ _ f.bytes _ _ _ _ c.loop-piece.gathering c.loop-piece.out.items c.loop-piece.lines.items (so_far c.args.most limit plan _ _ _ _ _ _ _ _ _ _ _ f opened) all

pub returns-in_err-hand_on : goal.returns-in_err-hand_on
returns-in_err-hand_on g c =
    λ limit plan opened.
    let f = c.loop-piece.invariant in
    let p = err_from_is_err_and c.from_residual-in_err-hand_on.result c.from_residual-in_err-hand_on.ensures.1 in
    let given : GivenWithin c.args.most (g.R.Source.log c.args.r.now) (g.R.Source.log c.next.new.r) (c.loop-piece.pieces.reads + 1) (f.bytes ++ c.in-Some.piece.now) = rw c.in-Some.is at (c.in_ok-piece.ensures.next _ _ f.given) in
    rw (p.1, p.2) (sent_in_part c.args.most limit plan _ _ f.bytes c.in-Some.piece.now _ _ _ _ _ c.loop-piece.gathering c.feed-fed.new.self c.loop-piece.out.items c.feed-fed.new.out.items c.loop-piece.lines.items c.feed-fed.new.report.items c.feed-fed.result c.in_err-hand_on.field-0.0
    (piece c.args.most limit plan _ _ _ f.bytes c.in-Some.piece.now _ _ _ _ c.loop-piece.gathering c.feed-fed.new.self c.loop-piece.out.items c.feed-fed.new.out.items c.loop-piece.lines.items c.feed-fed.new.report.items c.feed-fed.result (so_far c.args.most limit plan _ _ _ _ _ _ _ _ _ _ _ f opened) given c.feed-fed.ensures.feeds c.feed-fed.ensures.phase)
    c.in_err-hand_on.ensures.written)

pub returns-in_err-hand_on-2 : goal.returns-in_err-hand_on-2
returns-in_err-hand_on-2 g c =
    λ limit plan opened.
    let f = c.loop-piece.invariant in
    let p = err_from_is_err_and c.from_residual-in_err-hand_on-2.result c.from_residual-in_err-hand_on-2.ensures.1 in
    let given : GivenWithin c.args.most (g.R.Source.log c.args.r.now) (g.R.Source.log c.next.new.r) (c.loop-piece.pieces.reads + 1) (f.bytes ++ c.in-Some.piece.now) = rw c.in-Some.is at (c.in_ok-piece.ensures.next _ _ f.given) in
    rw (p.1, p.2) (told_in_part c.args.most limit plan _ _ f.bytes c.in-Some.piece.now _ _ _ _ _ _ c.loop-piece.gathering c.feed-fed.new.self c.loop-piece.out.items c.feed-fed.new.out.items c.loop-piece.lines.items c.feed-fed.new.report.items c.feed-fed.result c.in_err-hand_on-2.field-0.0
    (piece c.args.most limit plan _ _ _ f.bytes c.in-Some.piece.now _ _ _ _ c.loop-piece.gathering c.feed-fed.new.self c.loop-piece.out.items c.feed-fed.new.out.items c.loop-piece.lines.items c.feed-fed.new.report.items c.feed-fed.result (so_far c.args.most limit plan _ _ _ _ _ _ _ _ _ _ _ f opened) given c.feed-fed.ensures.feeds c.feed-fed.ensures.phase)
    c.in_ok-hand_on.ensures.written c.in_err-hand_on-2.ensures.written)

pub returns-in_err-fed : goal.returns-in_err-fed
returns-in_err-fed g c =
    λ limit plan opened.
    let f = c.loop-piece.invariant in
    let p = err_from_is_err_and c.from_residual-in_err-fed.result c.from_residual-in_err-fed.ensures.1 in
    let given : GivenWithin c.args.most (g.R.Source.log c.args.r.now) (g.R.Source.log c.next.new.r) (c.loop-piece.pieces.reads + 1) (f.bytes ++ c.in-Some.piece.now) = rw c.in-Some.is at (c.in_ok-piece.ensures.next _ _ f.given) in
    rw (p.1, p.2) (piece_failed c.args.most limit plan _ _ f.bytes c.in-Some.piece.now _ _ _ _ _ _ c.loop-piece.gathering c.feed-fed.new.self c.loop-piece.out.items c.feed-fed.new.out.items c.loop-piece.lines.items c.feed-fed.new.report.items c.in_err-fed.field-0.0
    (piece c.args.most limit plan _ _ _ f.bytes c.in-Some.piece.now _ _ _ _ c.loop-piece.gathering c.feed-fed.new.self c.loop-piece.out.items c.feed-fed.new.out.items c.loop-piece.lines.items c.feed-fed.new.report.items (Err c.in_err-fed.field-0.0) (so_far c.args.most limit plan _ _ _ _ _ _ _ _ _ _ _ f opened) given c.in_err-fed.ensures.feeds c.in_err-fed.ensures.phase)
    c.in_ok-hand_on.ensures.written c.in_ok-hand_on-2.ensures.written)

pub returns-then-branch : goal.returns-then-branch
returns-then-branch g c =
    λ limit plan opened.
    let f = c.loop-piece.invariant in
    let given : GivenWithin c.args.most (g.R.Source.log c.args.r.now) (g.R.Source.log c.next.new.r) (c.loop-piece.pieces.reads + 1) (f.bytes ++ c.in-Some.piece.now) = rw c.in-Some.is at (c.in_ok-piece.ensures.next _ _ f.given) in
    piece_closed c.args.most limit plan _ _ f.bytes c.in-Some.piece.now _ _ _ _ _ _ c.loop-piece.gathering c.feed-fed.new.self c.loop-piece.out.items c.feed-fed.new.out.items c.loop-piece.lines.items c.feed-fed.new.report.items c.in_ok-fed.field-0 c.summary.result
    (piece c.args.most limit plan _ _ _ f.bytes c.in-Some.piece.now _ _ _ _ c.loop-piece.gathering c.feed-fed.new.self c.loop-piece.out.items c.feed-fed.new.out.items c.loop-piece.lines.items c.feed-fed.new.report.items (Ok c.in_ok-fed.field-0) (so_far c.args.most limit plan _ _ _ _ _ _ _ _ _ _ _ f opened) given c.in_ok-fed.ensures.feeds c.in_ok-fed.ensures.phase)
    c.if-branch.true c.in_ok-hand_on.ensures.written c.in_ok-hand_on-2.ensures.written c.summary.ensures

pub loop-piece-preserved : goal.loop-piece-preserved
loop-piece-preserved g c =
    piece_open c.args.most _ _ _ _ _ _ _ _ _ _ _ c.args.gathering.now c.loop-piece.gathering c.feed-fed.new.self c.loop-piece.out.items c.feed-fed.new.out.items c.hand_on.new.gathered.items c.loop-piece.lines.items c.feed-fed.new.report.items c.hand_on-in-Some.new.gathered.items c.in-Some.piece.now c.in_ok-fed.field-0 c.loop-piece.invariant (search rules)
    c.in_ok-fed.ensures.feeds c.in_ok-fed.ensures.phase c.if-branch.false c.in_ok-hand_on.ensures.written c.in_ok-hand_on-2.ensures.written c.in_ok-hand_on.ensures.emptied c.in_ok-hand_on-2.ensures.emptied
