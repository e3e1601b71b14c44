use Rattle.std.proofs.Common.{◌∙◌, sym, arith}
use Rattle.std.proofs.lemmas.Result.{err_from_is_err_and}
use Rattle.llrp_operations.proofs.TurnLemmas.{breaks_after, breaks_in_turn, may_read, may_write, next_turn, no_turns}
use Rattle.llrp_operations.proofs.talk.converse.Goals as goal

pub turns-init : goal.turns-init
turns-init g c = record { turns = no_turns c.args.conversation.now _ _ _ c.requires.fresh c.requires.empty }

pub try_turn-requires : goal.try_turn-requires
try_turn-requires g c =
    may_read c.turns._turn c.args.conversation.now c.turns.conversation _ _ _ _ _ c.turns.out.items c.turns.invariant.turns (sym c.stands.ensures ∙ c.if-not-stands.false) c.begin_wait.ensures c.requires.source (omega arith)

pub pass_on-requires : goal.pass_on-requires
pass_on-requires g c =
    may_write c.turns._turn c.args.conversation.now c.turns.conversation _ _ _ _ c.turns.out.items c.turns.invariant.turns (sym c.stands.ensures ∙ c.if-not-stands.false) c.requires.sink

pub turns-preserved : goal.turns-preserved
turns-preserved g c = record {
  turns = next_turn c.turns._turn c.args.conversation.now c.turns.conversation c.try_turn.new.conversation c.pass_on.new.conversation _ _ _ _ _ _ _ c.turns.out.items c.try_turn.new.out.items c.pass_on.new.out.items
      c.turns.invariant.turns (sym c.stands.ensures ∙ c.if-not-stands.false) c.begin_wait.ensures c.in_ok-try_turn.ensures.turn c.pass_on.ensures;
}

pub returns-in_err-try_turn-clause-failed : goal.returns-in_err-try_turn-clause-failed
returns-in_err-try_turn-clause-failed g c =
    let p = err_from_is_err_and c.from_residual.result c.from_residual.ensures.1 in
    rw (p.1, p.2) (breaks_in_turn c.turns._turn c.args.conversation.now c.turns.conversation _ _ _ _ _ _ c.turns.out.items c.in_err-try_turn.field-0.0
    c.turns.invariant.turns (sym c.stands.ensures ∙ c.if-not-stands.false) c.begin_wait.ensures c.in_err-try_turn.ensures.failed)

pub returns-clause-failed : goal.returns-clause-failed
returns-clause-failed g c =
    breaks_after c.turns._turn c.args.conversation.now c.turns.conversation _ _ _ _ c.turns.out.items _ c.turns.invariant.turns c.may_have_changed.ensures
