use Rattle.std.proofs.Common.{arith}
use Rattle.std.proofs.lemmas.Result.{err_from_is_err_and}
use Rattle.llrp_stream.proofs.WritingLemmas.{same_failures}
use Rattle.llrp_commands.proofs.AnswerLemmas.{writes_after, writes_front}
use Rattle.llrp_commands.proofs.encode_json.write_where.Goals as goal

pub write_reason-requires : goal.write_reason-requires
write_reason-requires g c = omega (arith, same_failures _ _ _ c.in_ok-write_place.ensures, c.requires)

pub returns-in_err-write_place : goal.returns-in_err-write_place
returns-in_err-write_place g c =
    let p = err_from_is_err_and c.from_residual.result c.from_residual.ensures.1 in
    rw (p.1, p.2) (writes_front _ _ _ _ _ c.in_err-write_place.ensures)

pub returns : goal.returns
returns g c = writes_after _ _ _ _ _ c.write_reason.result c.in_ok-write_place.ensures c.write_reason.ensures
