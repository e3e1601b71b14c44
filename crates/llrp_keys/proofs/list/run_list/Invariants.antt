use Rattle.std.proofs.Common.{◌≡◌, ◌-◌, List, ℕ, []}
use Rattle.tag_forms.specs.Lists.{Answers, IsReady}
use Rattle.llrp_listing.specs.Calls.Copying.{Given}
use Rattle.llrp_listing.specs.declared.devices.TheConstants.{MOST_READS}
use Rattle.llrp_stream.specs.Device.{Wrote}
use Rattle.llrp_keys.proofs.list.run_list.Given as goal

abbrev pub invariant-loop-answers : goal.invariant-loop-answers
invariant-loop-answers g l = record {
  text : List ℕ;
  lines : List ℕ;
  given : Given (g.R.Source.log l.fn.r) (g.R.Source.log l.r) l.pieces.reads text;
  ready : IsReady l.list;
  to : l.list.to ≡ l.fn.to;
  filter : l.list.filter ≡ l.fn.filter;
  company : l.list.company ≡ l.fn.company;
  ended : Answers l.fn.to l.fn.filter l.fn.company [] text l.list.line.items l.list.refused lines;
  wrote : Wrote (g.W.Sink.log l.fn.w) (g.W.Sink.log l.w) lines;
  empty : l.answers.items ≡ [];
  sink : (g.W.Sink.log l.w).failures ≡ (g.W.Sink.log l.fn.w).failures;
}

abbrev pub decreases-loop-answers : goal.decreases-loop-answers
decreases-loop-answers g l = MOST_READS - l.pieces.reads
