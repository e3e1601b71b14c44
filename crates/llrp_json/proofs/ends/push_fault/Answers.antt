use Rattle.std.proofs.Common.{[], ◌∷◌, codes}
use Rattle.std.proofs.lemmas.Result.{on_ok_weaker}
use Rattle.std.specs.Prelude.{decimal}
use Rattle.llrp_listing.specs.StreamListing.{frame_fault_name}
use Rattle.llrp_json.specs.JsonLines.{fault_json}
use Rattle.llrp_json.specs.JsonValues.{member, string}
use Rattle.llrp_json.proofs.HeldItems.{line_of_object}
use Rattle.llrp_json.proofs.ends.push_fault.Goals as goal

pub returns : goal.returns
unfolding fault_json
returns c = on_ok_weaker c.push_text.result
    (λ e. line_of_object (member (codes "fault") (string (frame_fault_name c.args.fault.reason))) (member (codes "id") (decimal c.args.id) ∷ member (codes "bit") (decimal c.args.fault.bit) ∷ []) _ _ _ _ c.in_ok-push_reason.ensures c.in_ok-push_place.ensures e)
    c.push_text.ensures
