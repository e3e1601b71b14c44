use Rattle.std.proofs.Common.{◌++◌, ◌∙◌, ap, sym, List, ℕ}
use Rattle.std.proofs.lemmas.Result.{on_ok_weaker}
use Rattle.llrp_json.proofs.ValueLemmas.{inside_plain}
use Rattle.llrp_json.proofs.values.push_inside.Goals as goal

pub returns-then-are_plain : goal.returns-then-are_plain
returns-then-are_plain c =
    let same = inside_plain c.args.octets.now (sym c.are_plain.ensures ∙ c.if-are_plain.true) in
    on_ok_weaker c.push_text.result (λ e. e ∙ ap (λ (x : List ℕ). c.args.text.now ++ x) (sym same)) c.push_text.ensures
