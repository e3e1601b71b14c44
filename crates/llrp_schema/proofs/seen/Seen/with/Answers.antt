use Rattle.std.specs.Int.{w32}
use Rattle.std.proofs.lemmas.Nat.Bits.{bit_at_set_same, bit_at_set_other}
use Rattle.llrp_schema.proofs.seen.Seen.with.Goals as goal

pub returns-clause-here : goal.returns-clause-here
returns-clause-here c = bit_at_set_same w32 c.args.self.bits c.args.place.index c.requires

pub returns-clause-others : goal.returns-clause-others
returns-clause-others c = λ k other. bit_at_set_other w32 c.args.self.bits c.args.place.index c.requires k other
