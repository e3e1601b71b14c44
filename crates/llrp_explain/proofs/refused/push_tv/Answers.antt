use Rattle.std.proofs.Common.{◌++◌}
use Rattle.tag_bits.specs.Digits.{digits_of_bytes}
use Rattle.llrp_explain.proofs.RefusedTexts.{tv_text, on_ok}
use Rattle.llrp_explain.proofs.refused.push_tv.Goals as goal

pub returns : goal.returns
returns c = on_ok c.push_read-2.result _ _ c.push_read-2.ensures (λ h later. tv_text c.args.bit c.args.level (digits_of_bytes c.args.octets.now ++ later) c.args.text.now.items c.push_read.new.text.items c.push_read-2.new.text.items (c.in_ok-push_read.ensures later) (h later))
