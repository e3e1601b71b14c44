use Rattle.std.proofs.Common.{◌∙◌, ◌++◌, [], ◌∷◌, ap, sym, List, ℕ}
use Rattle.std.proofs.lemmas.Result.{on_ok_weaker}
use Rattle.llrp_listing.proofs.TextLemmas.{grown_thrice}
use Rattle.llrp_json.specs.JsonValues.{quoted}
use Rattle.llrp_json.proofs.PlainTexts.{epc_plain}
use Rattle.llrp_json.proofs.ValueLemmas.{inside_plain}
use Rattle.llrp_json.proofs.values.push_epc.Goals as goal

pub returns : goal.returns
returns c =
    let t = c.in_ok-push_epc.ensures in
    let same = inside_plain t.0 (epc_plain _ t.0 t.1) in
    on_ok_weaker c.push_text-2.result
    (λ e. (t.0, t.1, grown_thrice c.args.text.now _ _ _ (34 ∷ []) t.0 (34 ∷ []) c.in_ok-push_text.ensures t.2 e ∙ ap (λ (x : List ℕ). c.args.text.now ++ quoted x) (sym same)))
    c.push_text-2.ensures
