use Rattle.std.proofs.Common.{◌≡◌, arith}
use Rattle.tag_keys.specs.PureIdentity.{id_name}
use Rattle.tag_epc.proofs.KindLemmas.{every}
use Rattle.tag_keys.proofs.id_name.kind_named.Goals as goal

pub returns : goal.returns
returns c = every (λ k. c.args.name.now ≡ id_name k → ⊥) (λ i k below at. c.loop-kind.invariant i k (omega (arith, below)) at)
