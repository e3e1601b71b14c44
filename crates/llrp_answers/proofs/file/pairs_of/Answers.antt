use Rattle.std.proofs.Common.{sym, ◌∙◌, arith}
use Rattle.llrp_answers.proofs.FileLemmas.{goes_there, leads_to_end, no_octets}
use Rattle.llrp_answers.proofs.file.pairs_of.Goals as goal

pub loop-rest-preserved : goal.loop-rest-preserved
loop-rest-preserved c =
    let next = c.in-Ok.ensures.pair in
    record {
      leads = goes_there c.args.text.now c.loop-rest.rest.now c.in-Ok.next.2.now c.loop-rest.pairs.items c.push.new.self.items c.in-Ok.next.0 c.loop-rest.lines c.in-Ok.next.1 c.loop-rest.invariant.leads next c.in_ok-push.ensures.items;
      few = omega (arith, c.loop-rest.invariant.few, next.few);
    }

pub returns-clause-file : goal.returns-clause-file
returns-clause-file c = leads_to_end c.args.text.now c.loop-rest.rest.now c.loop-rest.pairs.items c.loop-rest.lines c.loop-rest.invariant.leads (no_octets c.loop-rest.rest.now (sym c.is_empty.ensures ∙ c.loop-rest-test.false))
