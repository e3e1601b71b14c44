use Rattle.std.proofs.Common.{◌<◌, ℕ, take, length, arith, subst}
use Rattle.std.proofs.lemmas.List.{length-take}
use Rattle.llrp_stream.specs.Calls.Device.{Took}
use Rattle.llrp_operations.proofs.TurnLemmas.{ends_turn, fails_turn, piece_turn, silent_turn}
use Rattle.llrp_operations.proofs.talk.take_turn.Goals as goal

pub returns-in-Ok-eq0-clause-turn : goal.returns-in-Ok-eq0-clause-turn
returns-in-Ok-eq0-clause-turn g c = ends_turn c.args.conversation.now c.lose.new.self c.args.out.now.items _ _ (subst (λ (n : ℕ). Took (g.R.Source.log c.args.r.now) (g.R.Source.log c.read.new.self) (take n c.read.new.buf)) c.in-Ok-eq0.field-0-test c.in-Ok-eq0.ensures.1) c.lose.ensures

pub returns-in_ok-take-in-Ok-clause-turn : goal.returns-in_ok-take-in-Ok-clause-turn
returns-in_ok-take-in-Ok-clause-turn g c =
    let some : 0 < length (take c.in-Ok.n c.read.new.buf) = omega (arith, length-take c.in-Ok.n c.read.new.buf, c.in-Ok.ensures.0, c.in-Ok.n-test) in
    piece_turn c.args.conversation.now c.take.new.self c.args.out.now.items c.take.new.out.items _ _ (take c.in-Ok.n c.read.new.buf) some c.in-Ok.ensures.1 c.in_ok-take-in-Ok.ensures

pub returns-in_ok-fall_silent-in-Err-clause-turn : goal.returns-in_ok-fall_silent-in-Err-clause-turn
returns-in_ok-fall_silent-in-Err-clause-turn g c = silent_turn c.args.conversation.now c.fall_silent.new.self c.args.out.now.items c.fall_silent.new.out.items _ _ c.in-Err.ensures.0 c.in-Err.ensures.1 c.in_ok-fall_silent-in-Err.ensures

pub returns-else-is_late-clause-turn : goal.returns-else-is_late-clause-turn
returns-else-is_late-clause-turn g c = fails_turn c.args.conversation.now c.lose-else-is_late.new.self c.args.out.now.items _ _ c.in-Err.ensures.0 c.in-Err.ensures.1 c.lose-else-is_late.ensures
