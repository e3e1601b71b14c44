use Rattle.std.proofs.Common.{◌∙◌, ◌++◌, List, ℕ, ap, codes}
use Rattle.std.proofs.lemmas.Result.{on_ok_weaker}
use Rattle.tag_forms.proofs.ListLemmas.{grown, left_on_ok}
use Rattle.tag_forms.proofs.object.push_refused.Goals as goal

pub returns : goal.returns
returns c =
    let front = c.in_ok-extend_from_slice.ensures.items in
    let name = c.in_ok-extend_from_slice-2.ensures.items ∙ ap (λ (n : List ℕ). c.extend_from_slice.new.self.items ++ n) c.as_bytes.ensures.value in
    on_ok_weaker c.extend_from_slice-3.result
    (λ last.
    let second = grown _ _ _ c.args.name.now (codes "\"}") name last in
    grown _ _ _ (codes "{\"refused\":\"") (c.args.name.now ++ codes "\"}") front second)
    (left_on_ok c.extend_from_slice-3.result c.extend_from_slice-3.new.self.items _ _ c.extend_from_slice-3.ensures.items)
