use Rattle.std.proofs.Common.{refl, sym, ap, ◌∙◌, arith}
use Rattle.std.proofs.lemmas.Result.{err_from_is_err_and}
use Rattle.llrp_endpoints.specs.declared.both_ends.client_side.ClientSide.{ClientSide}
use Rattle.llrp_endpoints.specs.declared.both_ends.reader_side.ReaderSide.{ReaderSide}
use Rattle.llrp_listing.specs.declared.devices.TheConstants.{MOST_READS}
use Rattle.llrp_stream.proofs.WritingLemmas.{same_failures}
use Rattle.llrp_endpoints.proofs.LoopLemmas.{begins, fresh_room, silent, not_silent, fewer_left, down_unwritten, up_unwritten, writes_down, writes_up, hears_down, hears_up, client_stopped, client_closed, reader_stopped}
use Rattle.llrp_endpoints.proofs.both_ends.exchange.Goals as goal

pub loop-reader-init : goal.loop-reader-init
loop-reader-init g c = record {
  state = λ e reader client. begins e _ c.args.reader.now c.args.client.now reader client c.requires.reader_unread c.requires.client_unread;
  down_room = fresh_room _ _ c.requires.down_source c.requires.client_unread;
  up_room = fresh_room _ _ c.requires.up_source c.requires.reader_unread;
  started = c.requires.started;
  down_sink = c.requires.down_sink;
  up_sink = c.requires.up_sink;
  report = c.requires.report;
}

pub returns-in_err-down : goal.returns-in_err-down
returns-in_err-down g c = λ e reader_stands client_stands.
    let p = err_from_is_err_and c.from_residual.result c.from_residual.ensures.1 in
    let failed = c.in_err-down.ensures.err in
    rw (p.1, p.2, failed.0) (down_unwritten _ _ _ _ _ _ _ _ (c.loop-reader.invariant.state e reader_stands client_stands) failed.1)

pub returns-in_err-closed : goal.returns-in_err-closed
returns-in_err-closed g c = λ e reader_stands client_stands.
    let p = err_from_is_err_and c.from_residual-in_err-closed.result c.from_residual-in_err-closed.ensures.1 in
    let l = c.loop-reader in
    let reader : ReaderSide = record { serving = l.reader.serving; said = c.write_piece.new.said; reads = l.reader.reads } in
    rw (p.1, p.2) (client_stopped _ _ _ _ _ (g.P.Sink.log c.hear.new.report) reader l.client c.hear.new.self (g.CR.Source.log c.hear.new.r) c.in_ok-down.down c.in_err-closed.field-0.0
    (writes_down _ _ _ _ _ l.reader reader l.client (g.RW.Sink.log c.write_piece.new.w) c.in_ok-down.down (l.invariant.state e reader_stands client_stands) c.in_ok-down.ensures.ok refl refl)
    c.in_ok-down.ensures.ok.a_piece c.in_err-closed.ensures.hears)

pub returns-then-closed : goal.returns-then-closed
returns-then-closed g c = λ e reader_stands client_stands.
    let l = c.loop-reader in
    let reader : ReaderSide = record { serving = l.reader.serving; said = c.write_piece.new.said; reads = l.reader.reads } in
    client_closed _ _ _ _ _ (g.P.Sink.log c.hear.new.report) reader l.client c.hear.new.self (g.CR.Source.log c.hear.new.r) c.in_ok-down.down c.summary.result c.in_ok-closed.closed c.if-closed.true
    (writes_down _ _ _ _ _ l.reader reader l.client (g.RW.Sink.log c.write_piece.new.w) c.in_ok-down.down (l.invariant.state e reader_stands client_stands) c.in_ok-down.ensures.ok refl refl)
    c.in_ok-down.ensures.ok.a_piece c.in_ok-closed.ensures.hears c.summary.ensures

pub returns-in_err-up : goal.returns-in_err-up
returns-in_err-up g c = λ e reader_stands client_stands.
    let p = err_from_is_err_and c.from_residual-in_err-up.result c.from_residual-in_err-up.ensures.1 in
    let failed = c.in_err-up.ensures.err in
    let l = c.loop-reader in
    let reader : ReaderSide = record { serving = l.reader.serving; said = c.write_piece.new.said; reads = l.reader.reads } in
    rw (p.1, p.2, failed.0) (up_unwritten _ _ _ _ _ reader c.hear.new.self (g.CW.Sink.log c.write_piece-in-loop-reader.new.w)
    (hears_down _ _ _ _ _ (g.P.Sink.log c.hear.new.report) reader l.client c.hear.new.self (g.CR.Source.log c.hear.new.r) c.in_ok-down.down c.in_ok-closed.closed c.if-closed.false
    (writes_down _ _ _ _ _ l.reader reader l.client (g.RW.Sink.log c.write_piece.new.w) c.in_ok-down.down (l.invariant.state e reader_stands client_stands) c.in_ok-down.ensures.ok refl refl) c.in_ok-closed.ensures.hears) failed.1)

pub loop-reader-smaller : goal.loop-reader-smaller
loop-reader-smaller g c =
    let l = c.loop-reader in
    fewer_left MOST_READS l.client.reads c.hear.new.self.reads l.reader.reads c.hear-in-loop-reader.new.self.reads c.in_ok-down.down c.in_ok-up.up c.in_ok-closed.ensures.room.few c.in_ok-hear.ensures.room.few
    c.in_ok-down.ensures.ok.some
    c.in_ok-closed.ensures.counted
    (λ none. ap (λ (s : ClientSide). s.reads) (c.in_ok-closed.ensures.idle none))
    (λ none unsaid. ap (λ (s : ClientSide). s.said.items) (sym (c.in_ok-closed.ensures.idle none)) ∙ c.in_ok-up.ensures.ok.some unsaid)
    c.in_ok-hear.ensures.counted
    (λ none. ap (λ (s : ReaderSide). s.reads) (c.in_ok-hear.ensures.idle none))
    (not_silent c.are_silent.result c.are_silent.ensures.1 c.loop-reader-test.true)

pub loop-reader-preserved : goal.loop-reader-preserved
loop-reader-preserved g c =
    let l = c.loop-reader in
    let reader : ReaderSide = record { serving = l.reader.serving; said = c.write_piece.new.said; reads = l.reader.reads } in
    let client : ClientSide = record { gathering = c.hear.new.self.gathering; said = c.write_piece-in-loop-reader.new.said; lines = c.hear.new.self.lines; reads = c.hear.new.self.reads } in
    record {
      state = λ e reader_stands client_stands.
          hears_up _ _ _ _ _ reader c.hear-in-loop-reader.new.self client (g.RR.Source.log c.hear-in-loop-reader.new.r) c.in_ok-up.up c.in_ok-hear.field-0
          (writes_up _ _ _ _ _ reader c.hear.new.self client (g.CW.Sink.log c.write_piece-in-loop-reader.new.w) c.in_ok-up.up
          (hears_down _ _ _ _ _ (g.P.Sink.log c.hear.new.report) reader l.client c.hear.new.self (g.CR.Source.log c.hear.new.r) c.in_ok-down.down c.in_ok-closed.closed c.if-closed.false
          (writes_down _ _ _ _ _ l.reader reader l.client (g.RW.Sink.log c.write_piece.new.w) c.in_ok-down.down (l.invariant.state e reader_stands client_stands) c.in_ok-down.ensures.ok refl refl) c.in_ok-closed.ensures.hears) c.in_ok-up.ensures.ok refl refl refl) c.in_ok-hear.ensures.hears;
      down_room = c.in_ok-closed.ensures.room;
      up_room = c.in_ok-hear.ensures.room;
      started = c.in_ok-hear.ensures.started;
      down_sink = omega (arith, l.invariant.down_sink, same_failures (g.RW.Sink.log l.reader_end.sink) (g.RW.Sink.log c.write_piece.new.w) c.in_ok-down.ensures.ok.front c.in_ok-down.ensures.ok.wrote);
      up_sink = omega (arith, l.invariant.up_sink, same_failures (g.CW.Sink.log l.client_end.sink) (g.CW.Sink.log c.write_piece-in-loop-reader.new.w) c.in_ok-up.ensures.ok.front c.in_ok-up.ensures.ok.wrote);
      report = omega (arith, l.invariant.report, c.in_ok-closed.ensures.report);
    }

pub returns-in_err-hear : goal.returns-in_err-hear
returns-in_err-hear g c = λ e reader_stands client_stands.
    let p = err_from_is_err_and c.from_residual-in_err-hear.result c.from_residual-in_err-hear.ensures.1 in
    let l = c.loop-reader in
    let reader : ReaderSide = record { serving = l.reader.serving; said = c.write_piece.new.said; reads = l.reader.reads } in
    let client : ClientSide = record { gathering = c.hear.new.self.gathering; said = c.write_piece-in-loop-reader.new.said; lines = c.hear.new.self.lines; reads = c.hear.new.self.reads } in
    rw (p.1, p.2) (reader_stopped _ _ _ _ _ reader c.hear-in-loop-reader.new.self client (g.RR.Source.log c.hear-in-loop-reader.new.r) c.in_ok-up.up c.in_err-hear.field-0.0
    (writes_up _ _ _ _ _ reader c.hear.new.self client (g.CW.Sink.log c.write_piece-in-loop-reader.new.w) c.in_ok-up.up
    (hears_down _ _ _ _ _ (g.P.Sink.log c.hear.new.report) reader l.client c.hear.new.self (g.CR.Source.log c.hear.new.r) c.in_ok-down.down c.in_ok-closed.closed c.if-closed.false
    (writes_down _ _ _ _ _ l.reader reader l.client (g.RW.Sink.log c.write_piece.new.w) c.in_ok-down.down (l.invariant.state e reader_stands client_stands) c.in_ok-down.ensures.ok refl refl) c.in_ok-closed.ensures.hears) c.in_ok-up.ensures.ok refl refl refl) c.in_ok-up.ensures.ok.a_piece c.in_err-hear.ensures.hears)

pub returns : goal.returns
returns g c = λ e reader_stands client_stands.
    let l = c.loop-reader in
    let both = c.are_silent.ensures.0 c.loop-reader-test.false in
    silent _ _ _ _ _ l.reader l.client (l.invariant.state e reader_stands client_stands) both.0 both.1
