use Rattle.std.proofs.lemmas.Result.{err_from_is_err_and}
use Rattle.llrp_commands.proofs.ExplainRuns.{unhanded}
use Rattle.llrp_commands.proofs.explain.take.Goals as goal

pub returns-in_err-hand_on-clause-hands : goal.returns-in_err-hand_on-clause-hands
returns-in_err-hand_on-clause-hands g c = λ stream taken s room.
    let p = err_from_is_err_and c.from_residual-in_err-hand_on.result c.from_residual-in_err-hand_on.ensures.1 in
    rw (p.1, p.2) (unhanded c.args.explainer.now c.feed.new.self c.hand_on.new.explainer _ taken _ _ _ c.in_ok-goes_on.ensures.form c.in_ok-goes_on.ensures.only c.in_ok-goes_on.ensures.set c.in_ok-goes_on.ensures.limit (c.in_ok-goes_on.ensures.goes stream taken s room) c.in_err-hand_on.ensures.wrote)

pub returns-clause-hands : goal.returns-clause-hands
returns-clause-hands g c = λ stream taken s room.
    record {
      text = c.feed.new.self.text.items;
      wrote = c.in_ok-hand_on.ensures.wrote;
      empty = c.in_ok-hand_on.ensures.empty;
      so_far = c.in_ok-hand_on.ensures.taken _ taken (c.in_ok-goes_on.ensures.goes stream taken s room);
      stopped = λ stops others. c.in_ok-hand_on.ensures.taken _ taken (c.in_ok-goes_on.ensures.stopped stops stream taken others s room);
    }
