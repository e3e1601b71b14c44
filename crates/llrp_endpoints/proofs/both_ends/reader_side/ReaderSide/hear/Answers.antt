use Rattle.std.proofs.Common.{◌≤◌, take, refl, arith}
use Rattle.std.proofs.lemmas.List.{length-take}
use Rattle.std.proofs.lemmas.Result.{err_from_is_err_and}
use Rattle.llrp_endpoints.proofs.ReaderSideLemmas.{reader_begins, reader_steps, reader_stops_unread, reader_stops_fed}
use Rattle.llrp_endpoints.proofs.both_ends.reader_side.ReaderSide.hear.Goals as goal

pub loop-left-init : goal.loop-left-init
loop-left-init g c = record {
  within = omega arith;
  room = c.requires.room;
  started = c.requires.started;
  no_less = omega arith;
  counted = λ less. absurd (omega arith);
  idle = λ same. refl;
  so_far = λ e r0 written read stands given. reader_begins e r0 (g.R.Source.log c.args.r.now) written read c.args.count c.args.self.now.reads c.args.self.now.serving c.args.self.now.said.items stands given;
}

pub returns-in_err-n-clause-hears : goal.returns-in_err-n-clause-hears
returns-in_err-n-clause-hears g c = λ e r0 down up stands given.
    let p = err_from_is_err_and c.from_residual.result c.from_residual.ensures.1 in
    rw (p.1, p.2) (reader_stops_unread e r0 _ _ down up c.args.count c.loop-left.left c.loop-left.self.reads c.loop-left.self.serving c.loop-left.self.said.items c.in_err-n.field-0.0 (c.loop-left.invariant.so_far e r0 down.written up.read stands given) c.in_err-n.ensures.err)

pub returns-in_err-feed-clause-hears : goal.returns-in_err-feed-clause-hears
returns-in_err-feed-clause-hears g c = λ e r0 down up stands given.
    let p = err_from_is_err_and c.from_residual-in_err-feed.result c.from_residual-in_err-feed.ensures.1 in
    let piece = take c.in_ok-n.n c.read_piece.new.buffer in
    let is = length-take c.in_ok-n.n c.read_piece.new.buffer in
    let within = c.in_ok-n.ensures.within in
    let below : c.in_ok-n.n ≤ c.loop-left.left = omega (arith, c.read_piece.auto.buffer, length-take c.loop-left.left c.loop-left.buffer) in
    rw (p.1, p.2) (reader_stops_fed e r0 _ _ down up piece c.args.count c.loop-left.left c.in_ok-n.n c.loop-left.self.reads c.read_piece.new.reads c.loop-left.self.serving c.feed.new.self c.loop-left.self.said.items c.feed.new.out.items c.in_err-feed.field-0.0
    (c.loop-left.invariant.so_far e r0 down.written up.read stands given) c.in_ok-n.ensures.ok (omega arith) below (record { feeds = c.in_err-feed.ensures.feeds; closed = c.in_err-feed.ensures.closed }))

pub loop-left-smaller : goal.loop-left-smaller
loop-left-smaller g c = let some = c.in_ok-n.ensures.some in let going = c.loop-left-test.true in omega arith

pub loop-left-preserved : goal.loop-left-preserved
loop-left-preserved g c =
    let piece = take c.in_ok-n.n c.read_piece.new.buffer in
    let is = length-take c.in_ok-n.n c.read_piece.new.buffer in
    let within = c.in_ok-n.ensures.within in
    let some = c.in_ok-n.ensures.some in
    let below : c.in_ok-n.n ≤ c.loop-left.left = omega (arith, c.read_piece.auto.buffer, length-take c.loop-left.left c.loop-left.buffer) in
    record {
      within = omega arith;
      room = c.in_ok-n.ensures.room;
      started = c.in_ok-feed.ensures.started;
      no_less = omega (arith, c.loop-left.invariant.no_less, c.in_ok-n.ensures.counted);
      counted = λ less. omega (arith, c.loop-left.invariant.no_less, c.in_ok-n.ensures.counted);
      idle = λ same. absurd (omega (arith, c.loop-left.invariant.within));
      so_far = λ e r0 written read stands given.
          reader_steps e r0 _ _ written read piece c.args.count c.loop-left.left c.in_ok-n.n c.loop-left.self.reads c.read_piece.new.reads c.loop-left.self.serving c.feed.new.self c.loop-left.self.said.items c.feed.new.out.items c.in_ok-feed.field-0
          (c.loop-left.invariant.so_far e r0 written read stands given) c.in_ok-n.ensures.ok (omega arith) below (record { feeds = c.in_ok-feed.ensures.feeds; closed = c.in_ok-feed.ensures.closed });
    }

pub returns-clause-hears : goal.returns-clause-hears
returns-clause-hears g c = λ e r0 down up stands given.
    let f = c.loop-left.invariant.so_far e r0 down.written up.read stands given in
    let counted = f.hearing.counted in
    let over = c.loop-left-test.false in
    (f.bytes, omega arith, f.hearing.given, f.stands)
