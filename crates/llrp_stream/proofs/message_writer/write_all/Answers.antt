use Rattle.std.proofs.Common.{◌≡◌, ◌<◌, ◌++◌, take, length, sym, ap, ◌∙◌, arith, List, append_assoc, ℕ}
use Rattle.std.proofs.lemmas.List.{length-take, take-append-drop}
use Rattle.llrp_stream.proofs.WritingLemmas.{write_more}
use Rattle.llrp_stream.proofs.message_writer.write_all.Goals as goal

pub loop-rest-preserved : goal.loop-rest-preserved
loop-rest-preserved g c =
    let done = c.loop-rest.invariant.0 in
    let rest = c.loop-rest.rest.now in
    let took = take c.in-Ok.n rest in
    let some : 0 < length took = omega (arith, c.in-Ok.ensures.0, c.in-Ok.n-test.1, length-take c.in-Ok.n rest) in
    let parts : rest ≡ took ++ c.split_at.result.1.now = sym (take-append-drop c.in-Ok.n rest) ∙ ap (λ (x : List ℕ). took ++ x) (sym c.split_at.ensures.back) in
    (done ++ took, c.loop-rest.invariant.1 ∙ ap (λ (x : List ℕ). done ++ x) parts ∙ sym (append_assoc done took c.split_at.result.1.now), write_more _ _ _ done took c.loop-rest.invariant.2 c.in-Ok.ensures.1 some)
