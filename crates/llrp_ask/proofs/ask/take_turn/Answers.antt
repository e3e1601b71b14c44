use Rattle.std.proofs.Common.{◌<◌, ℕ, take, length, arith, subst}
use Rattle.std.proofs.lemmas.List.{length-take}
use Rattle.llrp_stream.specs.Calls.Device.{Took}
use Rattle.llrp_ask.proofs.RunLemmas.{ends_turn, fails_turn, piece_turn, silent_turn}
use Rattle.llrp_ask.proofs.ask.take_turn.Goals as goal

pub returns-in-Ok-eq0-clause-took : goal.returns-in-Ok-eq0-clause-took
returns-in-Ok-eq0-clause-took g c = ends_turn c.args.conversation.now c.fail.new.self c.args.out.now.items _ _ _ (subst (λ (n : ℕ). Took (g.R.Source.log c.args.r.now) (g.R.Source.log c.read.new.self) (take n c.read.new.buf)) c.in-Ok-eq0.field-0-test c.in-Ok-eq0.ensures.1) (c.fail.ensures c.args.out.now.items)

pub returns-in_ok-take-in-Ok-clause-took : goal.returns-in_ok-take-in-Ok-clause-took
returns-in_ok-take-in-Ok-clause-took g c =
    let some : 0 < length (take c.in-Ok.n c.read.new.buf) = omega (arith, length-take c.in-Ok.n c.read.new.buf, c.in-Ok.ensures.0, c.in-Ok.n-test) in
    piece_turn c.args.conversation.now c.take.new.self c.args.out.now.items c.take.new.out.items _ _ _ _ (take c.in-Ok.n c.read.new.buf) some c.in-Ok.ensures.1 c.in_ok-take-in-Ok.ensures.took

pub returns-in_ok-fall_silent-in-Err-clause-took : goal.returns-in_ok-fall_silent-in-Err-clause-took
returns-in_ok-fall_silent-in-Err-clause-took g c = silent_turn c.args.conversation.now c.fall_silent.new.self c.args.out.now.items c.fall_silent.new.out.items _ _ _ c.in-Err.ensures.0 c.in-Err.ensures.1 c.in_ok-fall_silent-in-Err.ensures

pub returns-else-is_late-clause-took : goal.returns-else-is_late-clause-took
returns-else-is_late-clause-took g c = fails_turn c.args.conversation.now c.fail-else-is_late.new.self c.args.out.now.items _ _ _ c.in-Err.ensures.0 c.in-Err.ensures.1 (c.fail-else-is_late.ensures c.args.out.now.items)
