use Rattle.std.proofs.Common.{◌≢◌, arith}
use Rattle.tag_epc.specs.Layout.{header_of}
use Rattle.tag_epc.proofs.KindLemmas.{every}
use Rattle.tag_epc.proofs.kind.Kind.of_header.Goals as goal

pub returns : goal.returns
returns c = every (λ k. header_of k ≢ c.args.header) (λ i k below at. c.loop-kind.invariant i k (omega (arith, below)) at)
