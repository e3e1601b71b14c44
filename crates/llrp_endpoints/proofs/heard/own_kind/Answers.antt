use Rattle.std.proofs.Common.{◌∙◌, arith, sym}
use Rattle.llrp_tree.proofs.SpellingLemmas.{tv_number}
use Rattle.llrp_endpoints.proofs.heard.own_kind.Goals as goal

pub overflow_cast-number : goal.overflow_cast-number
overflow_cast-number c =
    let small = tv_number c.args.kind (sym c.is_tv.ensures ∙ c.if-is_tv.true) in
    omega (arith, c.number-number.ensures, small)
