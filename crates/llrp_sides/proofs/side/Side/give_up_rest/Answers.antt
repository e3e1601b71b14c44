use Rattle.std.proofs.Common.{◌∙◌, ap, sym}
use Rattle.std.proofs.lemmas.Result.{on_ok_weaker}
use Rattle.llrp_sides.specs.declared.side.Side.{Side}
use Rattle.llrp_sides.proofs.side.Side.give_up_rest.Goals as goal

pub returns-in-Some : goal.returns-in-Some
returns-in-Some c = on_ok_weaker c.give_up_all.result (λ e. λ more.
    let k = e (more c.in-Some.reassembly (sym c.take.ensures.value ∙ c.in-Some.is)) in
    record {
      passed = ap (λ (x : Side). x.passed) k.0;
      stretch = ap (λ (x : Side). x.stretch) k.0;
      lawful = ap (λ (x : Side). x.is_lawful) k.0;
      text = k.1;
    }) c.give_up_all.ensures
