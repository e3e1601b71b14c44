use Rattle.tag_scheme_keys.proofs.TagLaws.{joined_three}
use Rattle.tag_scheme_keys.proofs.components.three_joined.Goals as goal

pub returns-clause-text : goal.returns-clause-text
returns-clause-text c = joined_three c.args.filter _ _ _ c.args.company.now c.args.reference.now c.with_filter-text.ensures.text c.push_str.ensures.bytes c.push_str-2.ensures.bytes
