use Rattle.llrp_schema.specs.Schema.{groups_of}
use Rattle.llrp_listing.proofs.GroupBits.{enough_bits, least_small}
use Rattle.llrp_listing.proofs.encode.close_line.is_enough.Goals as goal

pub returns : goal.returns
returns c = λ children seen. enough_bits (groups_of c.args.kind) children c.args.seen c.required-bits.result (least_small c.args.kind) seen c.required-bits.ensures
