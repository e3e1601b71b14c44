use Rattle.std.proofs.Common.{arith, Err}
use Rattle.std.proofs.lemmas.Result.{err_from_is_err_and}
use Rattle.llrp_stream.proofs.WritingLemmas.{same_failures}
use Rattle.llrp_commands.proofs.AnswerLemmas.{writes_after, writes_front}
use Rattle.llrp_commands.proofs.EncodeJsonLemmas.{placed, placed_nothing}
use Rattle.llrp_commands.proofs.encode_json.write_place.Goals as goal

pub returns-then-is_empty : goal.returns-then-is_empty
returns-then-is_empty g c = placed_nothing c.args.path.now _ (grind (arith, c.is_empty.ensures, c.if-is_empty.true))

pub write_all-requires-2 : goal.write_all-requires-2
write_all-requires-2 g c = omega (arith, same_failures _ _ _ c.in_ok-write_all.ensures, c.requires)

pub returns-in_err-write_all : goal.returns-in_err-write_all
returns-in_err-write_all g c =
    let p = err_from_is_err_and c.from_residual.result c.from_residual.ensures.1 in
    rw (p.1, p.2) (placed c.args.path.now _ _ (Err c.in_err-write_all.field-0.0) (grind (arith, c.is_empty.ensures, c.if-is_empty.false)) (writes_front _ _ _ _ _ c.in_err-write_all.ensures))

pub returns : goal.returns
returns g c = placed c.args.path.now _ _ c.write_all-2.result (grind (arith, c.is_empty.ensures, c.if-is_empty.false)) (writes_after _ _ _ _ _ c.write_all-2.result c.in_ok-write_all.ensures c.write_all-2.ensures)
