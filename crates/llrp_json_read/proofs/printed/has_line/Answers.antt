use Rattle.std.proofs.Common.{◌∙◌, ap, arith, inl, inr, [], sym, Some}
use Rattle.llrp_json.specs.Calls.PieceLines.{begins_in, stands_in}
use Rattle.llrp_json.specs.Private.OpenJson.{AppendsMessage}
use Rattle.llrp_listing.proofs.EngineLemmas.{comes_idle}
use Rattle.llrp_stream.specs.declared.engine.frames.Outcome.{Outcome}
use Rattle.llrp_json_read.proofs.PrintedLines.{says_line, takes_frame}
use Rattle.llrp_json_read.proofs.printed.has_line.Goals as goal

pub feed-requires-clause-comes : goal.feed-requires-clause-comes
feed-requires-clause-comes c = inl ([], [], comes_idle (begins_in c.clear.new.self []) (stands_in c.clear.new.self []) c.new_in-frames.result c.new_in-frames.ensures.idle c.clear.ensures)

pub whole-requires : goal.whole-requires
whole-requires c =
    let g = takes_frame (begins_in c.feed.new.listener) (stands_in c.feed.new.listener) (λ was m now. AppendsMessage m was now) c.args.set c.args.limit c.new_in-frames.result.limit c.args.frame.now c.feed.new.self c.in-Ok.came.used c.in-Ok.came.outcome (c.in-Ok.ensures.set ∙ c.new_in-frames.ensures.set) c.new_in-frames.ensures.limit (omega (arith, c.if-came-frame.false)) (c.in-Some.is ∙ ap (λ (o : Outcome). Some o) c.in-Whole.is)
    (c.in-Ok.ensures.takes [] [] (comes_idle (begins_in c.clear.new.self []) (stands_in c.clear.new.self []) c.new_in-frames.result c.new_in-frames.ensures.idle c.clear.ensures)) in
    (g.2, ([], inr g.4))

pub returns : goal.returns
returns c = λ yes.
    let g = takes_frame (begins_in c.feed.new.listener) (stands_in c.feed.new.listener) (λ was m now. AppendsMessage m was now) c.args.set c.args.limit c.new_in-frames.result.limit c.args.frame.now c.feed.new.self c.in-Ok.came.used c.in-Ok.came.outcome (c.in-Ok.ensures.set ∙ c.new_in-frames.ensures.set) c.new_in-frames.ensures.limit (omega (arith, c.if-came-frame.false)) (c.in-Some.is ∙ ap (λ (o : Outcome). Some o) c.in-Whole.is)
    (c.in-Ok.ensures.takes [] [] (comes_idle (begins_in c.clear.new.self []) (stands_in c.clear.new.self []) c.new_in-frames.result c.new_in-frames.ensures.idle c.clear.ensures)) in
    let whole = c.whole.ensures g.2 ([], inr g.4) in
    (g.0, says_line c.args.set c.args.limit g.0 c.args.frame.now c.args.line.now g.3.0 g.2 g.1 g.3.1 g.3.2 (sym whole ∙ c.is_line.ensures yes))
