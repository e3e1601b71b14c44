use Rattle.std.proofs.Common.{◌∙◌, ◌++◌, List, ℕ, ap, codes}
use Rattle.std.proofs.lemmas.Result.{on_ok_weaker}
use Rattle.tag_forms.specs.Faults.{form_fault_name}
use Rattle.tag_forms.specs.Objects.{right_member}
use Rattle.tag_forms.proofs.ListLemmas.{grown, left_on_ok}
use Rattle.tag_forms.proofs.object.push_refusal_object.Goals as goal

pub returns : goal.returns
returns c =
    let front = c.in_ok-extend_from_slice.ensures.items in
    let name = c.in_ok-extend_from_slice-2.ensures.items ∙ ap (λ (n : List ℕ). c.extend_from_slice.new.self.items ++ n) (c.as_bytes.ensures.value ∙ c.name.ensures) in
    let right = c.in_ok-push_right.ensures in
    on_ok_weaker c.extend_from_slice-3.result
    (λ last.
    let third = grown _ _ _ (right_member c.args.fault) (codes "\"}") right last in
    let second = grown _ _ _ (form_fault_name c.args.fault) (right_member c.args.fault ++ codes "\"}") name third in
    grown _ _ _ (codes "{\"refused\":\"") (form_fault_name c.args.fault ++ (right_member c.args.fault ++ codes "\"}")) front second)
    (left_on_ok c.extend_from_slice-3.result c.extend_from_slice-3.new.self.items _ _ c.extend_from_slice-3.ensures.items)
