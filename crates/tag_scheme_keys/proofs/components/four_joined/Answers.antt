use Rattle.tag_scheme_keys.proofs.TagLaws.{joined_four}
use Rattle.tag_scheme_keys.proofs.components.four_joined.Goals as goal

pub returns-clause-text : goal.returns-clause-text
returns-clause-text c = joined_four c.args.filter _ _ _ c.args.company.now c.args.reference.now c.args.serial.now c.three_joined-text.ensures.text c.push_str.ensures.bytes c.push_str-2.ensures.bytes
