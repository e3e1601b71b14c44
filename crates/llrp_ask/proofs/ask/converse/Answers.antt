use Rattle.std.proofs.Common.{◌∙◌, sym, arith}
use Rattle.llrp_ask.proofs.RunLemmas.{ended, may_read, next_turn, talks_none}
use Rattle.llrp_ask.proofs.ask.converse.Goals as goal

pub turns-init : goal.turns-init
turns-init g c = record { talks = talks_none c.args.conversation.now _ _ _ _ c.requires.fresh c.requires.empty }

pub take_turn-requires-clause-source : goal.take_turn-requires-clause-source
take_turn-requires-clause-source g c =
    may_read c.turns._turn c.args.conversation.now c.turns.conversation c.begin_wait.new.asking _ _ _ _ _ _ _ c.turns.out.items c.in-Waits.field-0 c.turns.invariant.talks c.begin_wait.ensures.course c.begin_wait.ensures.log (sym c.phase.ensures ∙ c.in-Waits.is) c.requires.source (omega arith)

pub returns-in_default : goal.returns-in_default
returns-in_default g c = record {
  done = ended c.turns._turn c.args.conversation.now c.turns.conversation c.begin_wait.new.asking _ _ _ _ _ _ _ c.turns.out.items c.turns.invariant.talks c.begin_wait.ensures.course c.begin_wait.ensures.log;
  err = tt;
}

pub turns-preserved : goal.turns-preserved
turns-preserved g c = record {
  talks = next_turn c.turns._turn c.args.conversation.now c.turns.conversation c.take_turn.new.conversation c.begin_wait.new.asking _ _ _ _ _ _ _ _ _ _ c.turns.out.items c.take_turn.new.out.items c.hand_on.new.gathered.items c.in-Waits.field-0 c.turns.invariant.talks c.begin_wait.ensures.course c.begin_wait.ensures.log
      (sym c.phase.ensures ∙ c.in-Waits.is) c.in_ok-take_turn.ensures.took c.in_ok-take_turn.ensures.form c.in_ok-hand_on.ensures.written c.in_ok-hand_on.ensures.emptied;
}
