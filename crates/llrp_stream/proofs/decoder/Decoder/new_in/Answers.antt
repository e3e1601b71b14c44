use Rattle.std.proofs.Common.{[], arith, subst}
use Rattle.llrp_schema.specs.declared.kinds.KindSet.{KindSet}
use Rattle.llrp_stream.specs.Calls.Decoding.{StandsIn}
use Rattle.llrp_stream.specs.Private.Keeping.{decoder}
use Rattle.llrp_stream.proofs.DecoderLemmas.{kept_new, stands_new}
use Rattle.llrp_stream.proofs.decoder.Decoder.new_in.Goals as goal

pub invariant_of-result : goal.invariant_of-result
invariant_of-result c = kept_new c.new_in.result c.new.result (omega (arith, c.new_in.ensures.limit, c.requires.least)) (omega (arith, c.new_in.ensures.limit, c.requires.most)) c.new_in.ensures.idle.0 c.new_in.ensures.idle.1 c.new.ensures.nodes

pub returns-clause-stands : goal.returns-clause-stands
returns-clause-stands c = subst (λ (q : KindSet). StandsIn q (decoder c.new_in.result c.new.result) []) c.new_in.ensures.set (stands_new c.new_in.result c.new.result c.new_in.ensures.idle.0 c.new_in.ensures.idle.1 c.new.ensures.nodes)

pub returns-clause-limit : goal.returns-clause-limit
returns-clause-limit c = c.new_in.ensures.limit
