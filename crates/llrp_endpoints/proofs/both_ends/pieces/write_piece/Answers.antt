use Rattle.std.proofs.Common.{◌≡◌, ◌≤◌, ◌++◌, List, ℕ, [], take, drop, length, sym, ap, subst, ◌∙◌, arith}
use Rattle.std.proofs.lemmas.List.{length-take, take-take, take-append-drop}
use Rattle.llrp_stream.specs.Device.{SinkLog}
use Rattle.llrp_stream.specs.Calls.Device.{Put}
use Rattle.llrp_endpoints.specs.Private.EndsStand.{WritesPiece}
use Rattle.llrp_stream.proofs.WritingLemmas.{wrote_nothing, write_more}
use Rattle.llrp_endpoints.proofs.both_ends.pieces.write_piece.Goals as goal

written_piece : (said new : List ℕ) (k n : ℕ) (w0 w1 : SinkLog) → k ≤ 4096 → n ≤ length (take k said) → Put w0 w1 (take n (take k said)) → (n ≡ 0 → ⊥) → new ≡ drop n said → WritesPiece said new w0 w1 n
written_piece said new k n w0 w1 small within put some is =
    let piece = length-take k said in
    let front = length-take n said in
    let below : n ≤ k = omega arith in
    let same : take n (take k said) ≡ take n said = take-take n k said below in
    record {
      front = take n said;
      parts = sym (take-append-drop n said) ∙ ap (λ (x : List ℕ). take n said ++ x) (sym is);
      count_is = omega arith;
      a_piece = omega arith;
      some = λ none. absurd (some none);
      wrote = write_more w0 w0 w1 [] (take n said) (wrote_nothing w0) (subst (Put w0 w1) same put) (omega arith);
    }

pub returns-in-Ok-clause-ok : goal.returns-in-Ok-clause-ok
returns-in-Ok-clause-ok g c =
    let least = c.min.ensures in
    let wrote = rw c.as_slice.ensures.value at c.in-Ok.ensures in
    written_piece c.args.said.now.items c.take_off.new.bytes.items c.min.result c.in-Ok.n _ _ (omega arith) wrote.0 wrote.1 c.in-Ok.n-test.1 c.take_off.ensures
