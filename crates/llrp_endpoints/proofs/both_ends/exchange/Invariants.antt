use Rattle.std.proofs.Common.{◌+◌, ◌-◌, ◌<◌, ◌^◌, ◌≢◌, []}
use Rattle.llrp_endpoints.specs.declared.serving.Phase.TheVariants.{New}
use Rattle.llrp_listing.specs.declared.devices.TheConstants.{MOST_READS}
use Rattle.llrp_endpoints.specs.Private.EndsStand.{ClientStands, HasRoom, ReaderStands}
use Rattle.llrp_endpoints.specs.RunLoop.{BothEnds}
use Rattle.llrp_endpoints.proofs.LoopLemmas.{State}
use Rattle.llrp_endpoints.proofs.both_ends.exchange.Given as goal

abbrev pub invariant-loop-reader : goal.invariant-loop-reader
invariant-loop-reader g l = record {
  state : (e : BothEnds) → ReaderStands e [] [] l.fn.reader.serving l.fn.reader.said.items → ClientStands e [] [] (g.P.Sink.log l.fn.report) (g.P.Sink.log l.fn.report) l.fn.client.gathering l.fn.client.said.items l.fn.client.lines.items
      → State
      e
      (record {
        down = record { sink = g.RW.Sink.log l.fn.reader_end.sink; source = g.CR.Source.log l.fn.client_end.source };
        up = record { sink = g.CW.Sink.log l.fn.client_end.sink; source = g.RR.Source.log l.fn.reader_end.source };
        report = g.P.Sink.log l.fn.report;
      })
      (record { sink = g.RW.Sink.log l.reader_end.sink; source = g.CR.Source.log l.client_end.source })
      (record { sink = g.CW.Sink.log l.client_end.sink; source = g.RR.Source.log l.reader_end.source })
      (g.P.Sink.log l.report)
      l.reader
      l.client
      0
      0;
  down_room : HasRoom (g.CR.Source.log l.client_end.source) l.client.reads;
  up_room : HasRoom (g.RR.Source.log l.reader_end.source) l.reader.reads;
  started : l.reader.serving.phase ≢ New;
  down_sink : (g.RW.Sink.log l.reader_end.sink).failures < 2 ^ 63;
  up_sink : (g.CW.Sink.log l.client_end.sink).failures < 2 ^ 63;
  report : (g.P.Sink.log l.report).failures < 2 ^ 63;
}

abbrev pub decreases-loop-reader : goal.decreases-loop-reader
decreases-loop-reader g l = MOST_READS - l.client.reads + (MOST_READS - l.reader.reads)
