use Rattle.std.proofs.Common.{arith, refl}
use Rattle.tag_uri.proofs.QuickLemmas.{behind_colon, whole_read}
use Rattle.tag_uri.proofs.parse_fast.quick_parts.Goals as goal

pub overflow_sub-from : goal.overflow_sub-from
overflow_sub-from c = omega (arith, (behind_colon c.in-Some-scheme_in_front.kind c.in-Some.rest.now c.in-Some-scheme_in_front.numbers.now c.in-Some-scheme_in_front.ensures).1)

pub quick_components-requires-clause-ahead : goal.quick_components-requires-clause-ahead
quick_components-requires-clause-ahead c = (behind_colon c.in-Some-scheme_in_front.kind c.in-Some.rest.now c.in-Some-scheme_in_front.numbers.now c.in-Some-scheme_in_front.ensures).1

pub returns-clause-text : goal.returns-clause-text
returns-clause-text c =
    whole_read c.in-Some-scheme_in_front.kind c.args.text.now c.in-Some.rest.now c.in-Some.rest.now c.in-Some-scheme_in_front.numbers.now c.in-Some-quick_components.parts
    c.in-Some.ensures c.in-Some-scheme_in_front.ensures refl c.in-Some-quick_components.ensures.text
