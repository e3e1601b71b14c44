use Rattle.std.proofs.Common.{arith}
use Rattle.tag_scheme_keys.proofs.TagLaws.{filter_before}
use Rattle.tag_scheme_keys.proofs.tag_text.with_filter.Goals as goal

pub returns-clause-text : goal.returns-clause-text
returns-clause-text c = filter_before c.args.filter _ _ _ _ c.args.rest.now c.from.result c.requires.fits c.new-text.ensures c.from.ensures (c.push.ensures.ascii (omega arith)) c.push_str.ensures.bytes c.push_str-2.ensures.bytes
