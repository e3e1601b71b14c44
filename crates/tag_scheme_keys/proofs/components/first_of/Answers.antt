use Rattle.std.proofs.Common.{length, ap, arith, lit<}
use Rattle.tag_uri.proofs.ComponentLemmas.{one_component, first_component}
use Rattle.tag_scheme_keys.proofs.components.first_of.Goals as goal

pub returns : goal.returns
returns c = first_component c.args.text.now c.in-Some.first.now c.in-Some.rest.now (c.in-Some.ensures.byte (lit< tt) (λ w o h. h))

pub unreachable-requires : goal.unreachable-requires
unreachable-requires c = let one = ap length (one_component c.args.text.now (c.in-None.ensures.byte (lit< tt) (λ w o h. h))) in omega (arith, one, c.requires)
