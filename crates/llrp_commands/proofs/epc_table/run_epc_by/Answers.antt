use Rattle.std.proofs.Common.{inr, map, Some}
use Rattle.llrp_commands.specs.Calls.Epc.{DoesEpcBy}
use Rattle.llrp_commands.proofs.EpcLemmas.{as_asked}
use Rattle.llrp_commands.proofs.epc_table.run_epc_by.Goals as goal

pub returns-in-Ok-clause-ran : goal.returns-in-Ok-clause-ran
returns-in-Ok-clause-ran g c = λ text to schemes forms list json count filter file asks.
    let is = (rw c.in-Epc.is at (c.in_ok-words.ensures.named asks.parsed)).1 in
    inr (inr (
      c.in-Ok.table,
      c.in-Ok.ensures,
      c.epc_by-outcome.result,
      as_asked (λ t f l j n s k v. DoesEpcBy t f l j n s k v c.in-Ok.table (g.R.Source.log c.args.r.now) (g.R.Source.log c.epc_by-outcome.new.r) (g.W.Sink.log c.args.w.now) (g.W.Sink.log c.epc_by-outcome.new.w) c.epc_by-outcome.result)
          (map g.S.AsStr.text c.args.words.now) c.in-Epc.words text to schemes forms list json count filter (Some file) is asks c.epc_by-outcome.ensures,
      c.answer_epc.ensures,
    ))
