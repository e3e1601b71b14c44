use Rattle.std.proofs.Common.{rules, ◌+◌, ◌++◌, Bool, Ok, Err, ap}
use Rattle.std.proofs.lemmas.Result.{err_from_is_err_and}
use Rattle.llrp_listing.specs.Copying.{ReadAll}
use Rattle.llrp_listing.specs.Calls.Copying.{Given}
use Rattle.llrp_endpoints.proofs.ServeLemmas.{so_far, read_none, start_unwritten, start_failed, started, piece, piece_unwritten, piece_failed, piece_closed, piece_open, at_the_end}
use Rattle.llrp_endpoints.proofs.serve.serve.Goals as goal

pub returns-in_err-hand_on : goal.returns-in_err-hand_on
returns-in_err-hand_on g c =
    λ reader entries fresh.
    let S = g.S.Server in
    let p = err_from_is_err_and c.from_residual.result c.from_residual.ensures.1 in
    rw (p.1, p.2) (start_unwritten (S.opened reader entries) (S.says reader entries) (S.begins reader entries) _ _ _ c.start-started.new.self c.args.out.now.items c.start-started.new.out.items c.start-started.result c.in_err-hand_on.field-0.0 c.requires.nothing (c.start-started.ensures.starts reader entries fresh) c.in_err-hand_on.ensures.written)

pub returns-in_err-started : goal.returns-in_err-started
returns-in_err-started g c =
    λ reader entries fresh.
    let S = g.S.Server in
    let p = err_from_is_err_and c.from_residual-in_err-started.result c.from_residual-in_err-started.ensures.1 in
    rw (p.1, p.2) (start_failed (S.opened reader entries) (S.says reader entries) (S.begins reader entries) _ _ _ c.start-started.new.self c.args.out.now.items c.start-started.new.out.items c.in_err-started.field-0.0 c.requires.nothing (c.in_err-started.ensures.starts reader entries fresh) c.in_ok-hand_on.ensures.written)

pub loop-piece-init : goal.loop-piece-init
loop-piece-init g c =
    let S = g.S.Server in
    started S.may_feed S.fresh S.opened S.says S.begins _ _ _ _ c.args.server.now c.start-started.new.self c.args.out.now.items c.start-started.new.out.items c.hand_on.new.gathered.items c.in_ok-started.field-0 c.new-pieces.ensures c.requires.nothing c.in_ok-started.ensures.starts c.in_ok-started.ensures.may c.in_ok-hand_on.ensures.written c.in_ok-hand_on.ensures.emptied

pub returns-in_err-piece : goal.returns-in_err-piece
returns-in_err-piece g c =
    λ reader entries fresh.
    let S = g.S.Server in
    let f = c.loop-piece.invariant in
    let p = err_from_is_err_and c.from_residual-in_err-piece.result c.from_residual-in_err-piece.ensures.1 in
    rw (p.1, p.2) (read_none (S.opened reader entries) (S.says reader entries) (S.begins reader entries) _ _ f.bytes _ _ c.loop-piece.server c.loop-piece.out.items _ (so_far S.may_feed S.fresh S.opened S.says S.begins reader entries _ _ _ _ _ _ _ _ f fresh) (c.in_err-piece.ensures.next _ _ f.given))

pub returns : goal.returns
returns g c =
    λ reader entries fresh.
    let S = g.S.Server in
    let f = c.loop-piece.invariant in
    let all : ReadAll (g.R.Source.log c.args.r.now) (g.R.Source.log c.next.new.r) f.bytes = search rules in
    at_the_end (S.opened reader entries) (S.says reader entries) (S.begins reader entries) _ _ f.bytes _ _ c.loop-piece.server c.loop-piece.out.items c.finish.result (so_far S.may_feed S.fresh S.opened S.says S.begins reader entries _ _ _ _ _ _ _ _ f fresh) all (c.finish.ensures reader entries)

pub returns-in_err-hand_on-2 : goal.returns-in_err-hand_on-2
returns-in_err-hand_on-2 g c =
    λ reader entries fresh.
    let S = g.S.Server in
    let f = c.loop-piece.invariant in
    let p = err_from_is_err_and c.from_residual-in_err-hand_on-2.result c.from_residual-in_err-hand_on-2.ensures.1 in
    let given : Given (g.R.Source.log c.args.r.now) (g.R.Source.log c.next.new.r) (c.loop-piece.pieces.reads + 1) (f.bytes ++ c.in-Some.piece.now) = rw c.in-Some.is at (c.in_ok-piece.ensures.next _ _ f.given) in
    rw (p.1, p.2) (piece_unwritten (S.opened reader entries) (S.says reader entries) (S.begins reader entries) _ _ f.bytes c.in-Some.piece.now _ _ _ c.loop-piece.server c.feed-fed.new.self c.loop-piece.out.items c.feed-fed.new.out.items c.feed-fed.result c.in_err-hand_on-2.field-0.0
    (piece (S.opened reader entries) (S.says reader entries) (S.begins reader entries) _ _ _ f.bytes c.in-Some.piece.now _ _ c.loop-piece.server c.feed-fed.new.self c.loop-piece.out.items c.feed-fed.new.out.items c.feed-fed.result (so_far S.may_feed S.fresh S.opened S.says S.begins reader entries _ _ _ _ _ _ _ _ f fresh) given (c.feed-fed.ensures.feeds reader entries))
    c.in_err-hand_on-2.ensures.written)

pub returns-in_err-fed : goal.returns-in_err-fed
returns-in_err-fed g c =
    λ reader entries fresh.
    let S = g.S.Server in
    let f = c.loop-piece.invariant in
    let p = err_from_is_err_and c.from_residual-in_err-fed.result c.from_residual-in_err-fed.ensures.1 in
    let given : Given (g.R.Source.log c.args.r.now) (g.R.Source.log c.next.new.r) (c.loop-piece.pieces.reads + 1) (f.bytes ++ c.in-Some.piece.now) = rw c.in-Some.is at (c.in_ok-piece.ensures.next _ _ f.given) in
    rw (p.1, p.2) (piece_failed (S.opened reader entries) (S.says reader entries) (S.begins reader entries) _ _ f.bytes c.in-Some.piece.now _ _ _ c.loop-piece.server c.feed-fed.new.self c.loop-piece.out.items c.feed-fed.new.out.items c.in_err-fed.field-0.0
    (piece (S.opened reader entries) (S.says reader entries) (S.begins reader entries) _ _ _ f.bytes c.in-Some.piece.now _ _ c.loop-piece.server c.feed-fed.new.self c.loop-piece.out.items c.feed-fed.new.out.items (Err c.in_err-fed.field-0.0) (so_far S.may_feed S.fresh S.opened S.says S.begins reader entries _ _ _ _ _ _ _ _ f fresh) given (c.in_err-fed.ensures.feeds reader entries))
    c.in_ok-hand_on-2.ensures.written)

pub returns-then-branch : goal.returns-then-branch
returns-then-branch g c =
    λ reader entries fresh.
    let S = g.S.Server in
    let f = c.loop-piece.invariant in
    let given : Given (g.R.Source.log c.args.r.now) (g.R.Source.log c.next.new.r) (c.loop-piece.pieces.reads + 1) (f.bytes ++ c.in-Some.piece.now) = rw c.in-Some.is at (c.in_ok-piece.ensures.next _ _ f.given) in
    piece_closed (S.opened reader entries) (S.says reader entries) (S.begins reader entries) _ _ f.bytes c.in-Some.piece.now _ _ _ c.loop-piece.server c.feed-fed.new.self c.loop-piece.out.items c.feed-fed.new.out.items c.in_ok-fed.field-0 tt
    (piece (S.opened reader entries) (S.says reader entries) (S.begins reader entries) _ _ _ f.bytes c.in-Some.piece.now _ _ c.loop-piece.server c.feed-fed.new.self c.loop-piece.out.items c.feed-fed.new.out.items (Ok c.in_ok-fed.field-0) (so_far S.may_feed S.fresh S.opened S.says S.begins reader entries _ _ _ _ _ _ _ _ f fresh) given (c.in_ok-fed.ensures.feeds reader entries))
    c.if-branch.true c.in_ok-hand_on-2.ensures.written

pub loop-piece-preserved : goal.loop-piece-preserved
loop-piece-preserved g c =
    let S = g.S.Server in
    piece_open S.may_feed S.fresh S.opened S.says S.begins _ _ _ _ _ _ _ _ c.args.server.now c.loop-piece.server c.feed-fed.new.self c.loop-piece.out.items c.feed-fed.new.out.items c.hand_on-in-Some.new.gathered.items c.in-Some.piece.now c.in_ok-fed.field-0 c.loop-piece.invariant (search rules)
    c.in_ok-fed.ensures.feeds (c.in_ok-fed.ensures.may (ap (λ (b : Bool). Ok b) c.if-branch.false)) c.if-branch.false c.in_ok-hand_on-2.ensures.written c.in_ok-hand_on-2.ensures.emptied
