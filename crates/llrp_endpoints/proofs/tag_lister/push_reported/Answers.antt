use Rattle.std.proofs.Common.{◌∙◌, ap}
use Rattle.std.proofs.lemmas.Result.{on_ok_weaker}
use Rattle.llrp_tree.specs.Tree.{forest}
use Rattle.llrp_endpoints.proofs.TagListing.{full_reported}
use Rattle.llrp_endpoints.proofs.tag_lister.push_reported.Goals as goal

pub returns-in_ok-others-in-Full : goal.returns-in_ok-others-in-Full
returns-in_ok-others-in-Full c =
    on_ok_weaker c.push_full_with.result
    (λ w. full_reported c.args.form c.args.tag.now c.args.own.now c.as_slice-in-Full.result.now c.as_slice.result.now c.args.text.now _ c.in-Full.is (c.as_slice.ensures ∙ c.children.ensures) (ap forest c.as_slice-in-Full.ensures.value ∙ c.in_ok-others-in-Full.ensures) w)
    c.push_full_with.ensures
