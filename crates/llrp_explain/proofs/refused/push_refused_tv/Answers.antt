use Rattle.std.proofs.Common.{◌++◌}
use Rattle.tag_bits.specs.Digits.{digits_of_bytes}
use Rattle.std.proofs.lemmas.Result.{on_ok_weaker}
use Rattle.llrp_explain.proofs.RefusedParts.{tv_refused}
use Rattle.llrp_explain.proofs.refused.push_refused_tv.Goals as goal

pub returns : goal.returns
returns c = on_ok_weaker c.push_tv.result (λ e later. tv_refused c.args.bit c.args.level (digits_of_bytes c.args.octets.now ++ later) _ _ _ c.in_ok-push_heading.ensures (e later)) c.push_tv.ensures
