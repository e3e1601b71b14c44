use Rattle.std.proofs.Common.{◌≡◌, ◌++◌, ◌∙◌, List, ℕ, length, ap, arith, sym}
use Rattle.llrp_tree.proofs.LengthLemmas.{spelled_length}
use Rattle.llrp_tree.proofs.SpelledLemmas.{zeros_filled, refilled}
use Rattle.llrp_tree.proofs.encode.encode_into.Goals as goal

pub returns-in-Ok-clause-ok : goal.returns-in-Ok-clause-ok
returns-in-Ok-clause-ok c =
    let bytes : List ℕ = c.new-spelling.result in
    let whole : c.fill_from.new.buf ≡ c.args.out.now.items ++ bytes =
    zeros_filled c.args.out.now.items bytes c.as_mut_slice.result.now c.fill_from.new.buf c.fill_from.result (length c.as_slice-front.result.now) c.left.result
    (c.as_mut_slice.ensures.value ∙ c.in-Ok.ensures.ok) (ap (λ (x : List ℕ). length x) c.as_slice-front.ensures.value) c.left.ensures c.fill_from.ensures.count c.fill_from.ensures.filled in
    let s = c.new-spelling.ensures in (
      bytes,
      record { lawful = s.lawful; octets = s.octets; spelled = s.spelled; short = omega (arith, spelled_length c.args.message.now bytes s.spelled, c.length.ensures, c.if-length-limit.false) },
      refilled _ c.fill_from.new.buf c.grow.new.out.items (sym c.as_mut_slice.ensures.len ∙ ap (λ (x : List ℕ). length x) c.as_mut_slice.ensures.value) (c.fill_from.auto.buf ∙ ap (λ (x : List ℕ). length x) c.as_mut_slice.ensures.value) ∙ whole,
    )
