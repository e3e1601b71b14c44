use Rattle.std.proofs.lemmas.Result.{on_ok_weaker}
use Rattle.llrp_json.proofs.HeldItems.{line_of_rest}
use Rattle.llrp_json.proofs.ends.push_rest.Goals as goal

pub returns : goal.returns
returns c = on_ok_weaker c.push_text-2.result (λ e. line_of_rest c.args.octets _ _ _ _ c.in_ok-push_text.ensures c.in_ok-push_number.ensures e) c.push_text-2.ensures
