use Rattle.std.proofs.Common.{◌++◌, arith, subst, List, ℕ}
use Rattle.std.proofs.lemmas.Result.{err_from_is_err_and}
use Rattle.llrp_stream.proofs.WritingLemmas.{same_failures}
use Rattle.llrp_commands.proofs.AnswerLemmas.{writes_after, writes_front}
use Rattle.llrp_listing.specs.Calls.Copying.{Writes}
use Rattle.llrp_commands.specs.Calls.EncodeJson.{json_refusal_line, number_text, place_text, reason_text}
use Rattle.llrp_commands.proofs.encode_json.write_line_refusal.Goals as goal

pub write_where-requires : goal.write_where-requires
write_where-requires g c = omega (arith, same_failures _ _ _ c.in_ok-write_number.ensures, c.requires)

pub returns-in_err-write_number : goal.returns-in_err-write_number
unfolding json_refusal_line
returns-in_err-write_number g c =
    let p = err_from_is_err_and c.from_residual.result c.from_residual.ensures.1 in
    rw (p.1, p.2) (writes_front _ _ _ _ _ c.in_err-write_number.ensures)

pub returns : goal.returns
unfolding json_refusal_line
returns g c =
    subst (λ (path : List ℕ). Writes (number_text c.args.line.now.number ++ (place_text path ++ reason_text c.args.line.now.reason)) (g.E.Sink.log c.args.e.now) (g.E.Sink.log c.write_where.new.e) c.write_where.result) c.as_slice.ensures.value
    (writes_after _ _ _ _ _ c.write_where.result c.in_ok-write_number.ensures c.write_where.ensures)
