use Rattle.std.proofs.Common.{◌*◌, length}
use Rattle.std.specs.Prelude.{decimal}
use Rattle.hex.specs.Hex.{encode_lower}
use Rattle.llrp_explain.proofs.PrintedLemmas.{octets_text, on_written}
use Rattle.llrp_explain.proofs.push.push_octets_line.Goals as goal

pub returns : goal.returns
returns c =
    on_written c.extend_from_slice-3.result _ _ _ _ c.extend_from_slice-3.ensures.items
    (λ e. octets_text c.args.text.now.items _ _ _ _ _ _ _ (decimal c.args.bit) (decimal (8 * length c.args.octets.now)) (decimal c.args.level) c.args.name.now (encode_lower c.args.octets.now) c.in_ok-push_number.ensures c.in_ok-push_number-2.ensures c.in_ok-push_number-3.ensures c.in_ok-extend_from_slice.ensures.items c.in_ok-extend_from_slice-2.ensures.items c.in_ok-push_hexadecimal.ensures e)
