use Rattle.std.proofs.Common.{inl}
use Rattle.tag_schemes.proofs.TextLaws.{read_text}
use Rattle.tag_schemes.proofs.all_texts.read_any.Goals as goal

pub returns-in-Ok-clause-ok : goal.returns-in-Ok-clause-ok
returns-in-Ok-clause-ok c = inl (c.in-Ok.epc, c.word_of.ensures, read_text c.in-Ok.epc c.args.text.now c.in-Some.scheme c.in-Some.rest.now c.in-Some.ensures.some c.in-Ok.ensures.scheme c.in-Ok.ensures.ok)
