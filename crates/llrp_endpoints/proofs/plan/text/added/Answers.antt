use Rattle.std.proofs.Common.{◌≡◌, ◌∙◌, ap, sym, arith, List, [], ◌∷◌, length}
use Rattle.llrp_tree.specs.Tree.{MessageTree, Tree, trees}
use Rattle.llrp_stream.specs.Cuts.{length_field}
use Rattle.llrp_endpoints.proofs.PlanTextLemmas.{Only, first, long_enough, only, more_there, decoded, not_bad, one_child, popped, lists_one}
use Rattle.llrp_endpoints.proofs.plan.text.added.Goals as goal

pub get-requires-clause-within : goal.get-requires-clause-within
get-requires-clause-within c = let long = long_enough c.args.set c.args.text.now c.args.octets.now (first c.args.set c.args.text.now c.args.octets.now c.requires) in omega (arith, long)

pub another-requires : goal.another-requires
unfolding length_field
another-requires c = more_there c.args.set c.args.text.now c.args.octets.now (first c.args.set c.args.text.now c.args.octets.now c.requires) (λ e. c.if-get-octets.true (c.get.ensures.value ∙ e))

pub decode_frame_in-requires-clause-header : goal.decode_frame_in-requires-clause-header
decode_frame_in-requires-clause-header c = long_enough c.args.set c.args.text.now c.args.octets.now (first c.args.set c.args.text.now c.args.octets.now c.requires)

pub unreachable-requires : goal.unreachable-requires
unfolding length_field
unreachable-requires c =
    let o : Only c.args.set c.args.text.now c.args.octets.now = only c.args.set c.args.text.now c.args.octets.now (first c.args.set c.args.text.now c.args.octets.now c.requires) (sym c.get.ensures.value ∙ c.if-get-octets.false) in
    let same : c.in-Ok.message ≡ o.m = decoded c.args.set c.args.text.now c.args.octets.now o c.in-Ok.message c.in-Ok.ensures.0 c.in-Ok.ensures.1 in
    let child = one_child c.args.set o.m o.frame.frame.lawful o.line in
    let items : child.0 ∷ [] ≡ c.into_vec.result.items = sym child.1 ∙ ap (λ (m : MessageTree). trees m.children) (sym same) ∙ sym c.into_children.ensures ∙ sym c.into_vec.ensures in
    let one = ap (λ (ts : List Tree). length ts) items in
    omega (arith, one, c.into_vec.result.ok.0, c.in-None.ensures.cases.0)

pub unreachable-requires-in-Err-Bad : goal.unreachable-requires-in-Err-Bad
unfolding length_field
unreachable-requires-in-Err-Bad c =
    let o : Only c.args.set c.args.text.now c.args.octets.now = only c.args.set c.args.text.now c.args.octets.now (first c.args.set c.args.text.now c.args.octets.now c.requires) (sym c.get.ensures.value ∙ c.if-get-octets.false) in
    not_bad c.args.set c.args.text.now c.args.octets.now o c.in-Err-Bad.field-0-0 (rw c.in-Err-Bad.field-0-is at c.in-Err-Bad.ensures)

pub returns-in-Some-clause-rospec : goal.returns-in-Some-clause-rospec
unfolding length_field
returns-in-Some-clause-rospec c =
    let o : Only c.args.set c.args.text.now c.args.octets.now = only c.args.set c.args.text.now c.args.octets.now (first c.args.set c.args.text.now c.args.octets.now c.requires) (sym c.get.ensures.value ∙ c.if-get-octets.false) in
    let same : c.in-Ok.message ≡ o.m = decoded c.args.set c.args.text.now c.args.octets.now o c.in-Ok.message c.in-Ok.ensures.0 c.in-Ok.ensures.1 in
    let child = one_child c.args.set o.m o.frame.frame.lawful o.line in
    let items : child.0 ∷ [] ≡ c.into_vec.result.items = sym child.1 ∙ ap (λ (m : MessageTree). trees m.children) (sym same) ∙ sym c.into_children.ensures ∙ sym c.into_vec.ensures in
    let last : c.in-Some.rospec ≡ child.0 = popped c.pop.new.self.items c.in-Some.rospec child.0 (items ∙ c.in-Some.ensures.items) in
    lists_one c.args.set c.args.text.now c.args.octets.now o c.in-Some.rospec (child.1 ∙ ap (λ (t : Tree). t ∷ []) (sym last))
