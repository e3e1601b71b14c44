use Rattle.std.proofs.Common.{codes}
use Rattle.llrp_labels.proofs.TagLemmas.{last_part}
use Rattle.llrp_labels.proofs.tags.push_serial.Goals as goal

pub returns : goal.returns
returns c =
    last_part c.extend_from_slice-3.result (codes "\",\"serial\":\"") c.args.serial.now (codes "\"") c.args.out.now.items c.extend_from_slice.new.self.items c.extend_from_slice-2.new.self.items c.extend_from_slice-3.new.self.items
    c.in_ok-extend_from_slice.ensures.items c.in_ok-extend_from_slice-2.ensures.items c.extend_from_slice-3.ensures.items
