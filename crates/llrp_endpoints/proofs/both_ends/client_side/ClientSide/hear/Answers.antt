use Rattle.std.proofs.Common.{◌≤◌, take, refl, arith}
use Rattle.std.proofs.lemmas.List.{length-take}
use Rattle.std.proofs.lemmas.Result.{err_from_is_err_and}
use Rattle.llrp_endpoints.proofs.ClientSideLemmas.{client_begins, client_heard, client_steps, client_ends, client_stops_unread, client_stops_unreported, client_stops_fed}
use Rattle.llrp_stream.proofs.WritingLemmas.{same_failures}
use Rattle.llrp_endpoints.proofs.both_ends.client_side.ClientSide.hear.Goals as goal

pub loop-left-init : goal.loop-left-init
loop-left-init g c = record {
  within = omega arith;
  room = c.requires.room;
  report = refl;
  no_less = omega arith;
  counted = λ less. absurd (omega arith);
  idle = λ same. refl;
  so_far = λ e s0 p0 written read stands given. client_begins e s0 (g.R.Source.log c.args.r.now) p0 (g.P.Sink.log c.args.report.now) written read c.args.count c.args.self.now.reads c.args.self.now.gathering c.args.self.now.said.items c.args.self.now.lines.items stands given;
}

pub returns-in_err-n-clause-hears : goal.returns-in_err-n-clause-hears
returns-in_err-n-clause-hears g c = λ e s0 p0 down up stands given.
    let p = err_from_is_err_and c.from_residual.result c.from_residual.ensures.1 in
    rw (p.1, p.2)
    (client_stops_unread e s0 (g.R.Source.log c.loop-left.r) (g.R.Source.log c.read_piece.new.r) p0 (g.P.Sink.log c.loop-left.report) down up c.args.count c.loop-left.left c.loop-left.self.reads c.loop-left.self.gathering c.loop-left.self.said.items c.loop-left.self.lines.items c.in_err-n.field-0.0
    (c.loop-left.invariant.so_far e s0 p0 up.written down.read stands given) c.in_err-n.ensures.err)

pub returns-in_err-hand_on-clause-hears : goal.returns-in_err-hand_on-clause-hears
returns-in_err-hand_on-clause-hears g c = λ e s0 p0 down up stands given.
    let p = err_from_is_err_and c.from_residual-in_err-hand_on.result c.from_residual-in_err-hand_on.ensures.1 in
    let l = c.loop-left in
    let piece = take c.in_ok-n.n c.read_piece.new.buffer in
    let is = length-take c.in_ok-n.n c.read_piece.new.buffer in
    let within = c.in_ok-n.ensures.within in
    let below : c.in_ok-n.n ≤ c.loop-left.left = omega (arith, c.read_piece.auto.buffer, length-take c.loop-left.left c.loop-left.buffer) in
    rw (p.1, p.2)
    (client_stops_unreported e s0 (g.R.Source.log l.r) (g.R.Source.log c.read_piece.new.r) p0 (g.P.Sink.log l.report) (g.P.Sink.log c.hand_on.new.w) down up piece c.args.count l.left c.in_ok-n.n l.self.reads c.read_piece.new.reads l.self.gathering c.feed-fed.new.self
    l.self.said.items c.feed-fed.new.out.items l.self.lines.items c.feed-fed.new.report.items c.feed-fed.result c.in_err-hand_on.field-0.0
    (client_heard e s0 (g.R.Source.log l.r) (g.R.Source.log c.read_piece.new.r) p0 (g.P.Sink.log l.report) up.written down.read piece c.args.count l.left c.in_ok-n.n l.self.reads c.read_piece.new.reads l.self.gathering l.self.said.items l.self.lines.items
    (l.invariant.so_far e s0 p0 up.written down.read stands given) c.in_ok-n.ensures.ok (omega arith) below)
    (record { feeds = c.feed-fed.ensures.feeds; phase = c.feed-fed.ensures.phase }) c.in_err-hand_on.ensures.written)

pub returns-in_err-closed-clause-hears : goal.returns-in_err-closed-clause-hears
returns-in_err-closed-clause-hears g c = λ e s0 p0 down up stands given.
    let p = err_from_is_err_and c.from_residual-in_err-closed.result c.from_residual-in_err-closed.ensures.1 in
    let l = c.loop-left in
    let piece = take c.in_ok-n.n c.read_piece.new.buffer in
    let is = length-take c.in_ok-n.n c.read_piece.new.buffer in
    let within = c.in_ok-n.ensures.within in
    let below : c.in_ok-n.n ≤ c.loop-left.left = omega (arith, c.read_piece.auto.buffer, length-take c.loop-left.left c.loop-left.buffer) in
    rw (p.1, p.2)
    (client_stops_fed e s0 (g.R.Source.log l.r) (g.R.Source.log c.read_piece.new.r) p0 (g.P.Sink.log l.report) (g.P.Sink.log c.hand_on.new.w) down up piece c.args.count l.left c.in_ok-n.n l.self.reads c.read_piece.new.reads l.self.gathering c.feed-fed.new.self
    l.self.said.items c.feed-fed.new.out.items l.self.lines.items c.feed-fed.new.report.items c.in_err-closed.field-0.0
    (client_heard e s0 (g.R.Source.log l.r) (g.R.Source.log c.read_piece.new.r) p0 (g.P.Sink.log l.report) up.written down.read piece c.args.count l.left c.in_ok-n.n l.self.reads c.read_piece.new.reads l.self.gathering l.self.said.items l.self.lines.items
    (l.invariant.so_far e s0 p0 up.written down.read stands given) c.in_ok-n.ensures.ok (omega arith) below)
    (record { feeds = c.in_err-closed.ensures.feeds; phase = c.in_err-closed.ensures.phase }) c.in_ok-hand_on.ensures.written)

pub returns-then-closed-clause-hears : goal.returns-then-closed-clause-hears
returns-then-closed-clause-hears g c = λ e s0 p0 down up stands given.
    let l = c.loop-left in
    let piece = take c.in_ok-n.n c.read_piece.new.buffer in
    let is = length-take c.in_ok-n.n c.read_piece.new.buffer in
    let within = c.in_ok-n.ensures.within in
    let below : c.in_ok-n.n ≤ c.loop-left.left = omega (arith, c.read_piece.auto.buffer, length-take c.loop-left.left c.loop-left.buffer) in
    client_ends e s0 (g.R.Source.log l.r) (g.R.Source.log c.read_piece.new.r) p0 (g.P.Sink.log l.report) (g.P.Sink.log c.hand_on.new.w) down up piece c.args.count l.left c.in_ok-n.n l.self.reads c.read_piece.new.reads l.self.gathering c.feed-fed.new.self
    l.self.said.items c.feed-fed.new.out.items l.self.lines.items c.feed-fed.new.report.items c.in_ok-closed.closed c.if-closed.true
    (client_heard e s0 (g.R.Source.log l.r) (g.R.Source.log c.read_piece.new.r) p0 (g.P.Sink.log l.report) up.written down.read piece c.args.count l.left c.in_ok-n.n l.self.reads c.read_piece.new.reads l.self.gathering l.self.said.items l.self.lines.items
    (l.invariant.so_far e s0 p0 up.written down.read stands given) c.in_ok-n.ensures.ok (omega arith) below)
    (record { feeds = c.in_ok-closed.ensures.feeds; phase = c.in_ok-closed.ensures.phase }) c.in_ok-hand_on.ensures.written

pub loop-left-preserved : goal.loop-left-preserved
loop-left-preserved g c =
    let l = c.loop-left in
    let piece = take c.in_ok-n.n c.read_piece.new.buffer in
    let is = length-take c.in_ok-n.n c.read_piece.new.buffer in
    let within = c.in_ok-n.ensures.within in
    let some = c.in_ok-n.ensures.some in
    let below : c.in_ok-n.n ≤ c.loop-left.left = omega (arith, c.read_piece.auto.buffer, length-take c.loop-left.left c.loop-left.buffer) in
    record {
      within = omega arith;
      room = c.in_ok-n.ensures.room;
      report = omega (arith, c.loop-left.invariant.report, same_failures (g.P.Sink.log c.loop-left.report) (g.P.Sink.log c.hand_on.new.w) c.feed-fed.new.report.items c.in_ok-hand_on.ensures.written);
      no_less = omega (arith, c.loop-left.invariant.no_less, c.in_ok-n.ensures.counted);
      counted = λ less. omega (arith, c.loop-left.invariant.no_less, c.in_ok-n.ensures.counted);
      idle = λ same. absurd (omega (arith, c.loop-left.invariant.within));
      so_far = λ e s0 p0 written read stands given.
          client_steps e s0 (g.R.Source.log l.r) (g.R.Source.log c.read_piece.new.r) p0 (g.P.Sink.log l.report) (g.P.Sink.log c.hand_on.new.w) written read piece c.args.count l.left c.in_ok-n.n l.self.reads c.read_piece.new.reads l.self.gathering c.feed-fed.new.self
          l.self.said.items c.feed-fed.new.out.items l.self.lines.items c.feed-fed.new.report.items c.hand_on.new.gathered.items c.in_ok-closed.closed c.if-closed.false
          (client_heard e s0 (g.R.Source.log l.r) (g.R.Source.log c.read_piece.new.r) p0 (g.P.Sink.log l.report) written read piece c.args.count l.left c.in_ok-n.n l.self.reads c.read_piece.new.reads l.self.gathering l.self.said.items l.self.lines.items
          (l.invariant.so_far e s0 p0 written read stands given) c.in_ok-n.ensures.ok (omega arith) below)
          (record { feeds = c.in_ok-closed.ensures.feeds; phase = c.in_ok-closed.ensures.phase }) c.in_ok-hand_on.ensures.written c.in_ok-hand_on.ensures.emptied;
    }

pub returns-clause-hears : goal.returns-clause-hears
returns-clause-hears g c = λ e s0 p0 down up stands given.
    let f = c.loop-left.invariant.so_far e s0 p0 up.written down.read stands given in
    let counted = f.hearing.counted in
    let over = c.loop-left-test.false in
    (f.bytes, omega arith, f.hearing.given, f.stands)
