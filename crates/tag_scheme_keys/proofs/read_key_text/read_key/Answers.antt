use Rattle.tag_scheme_keys.proofs.KeyLaws.{key_with}
use Rattle.tag_scheme_keys.proofs.read_key_text.read_key.Goals as goal

pub returns-in-Ok-clause-ok : goal.returns-in-Ok-clause-ok
returns-in-Ok-clause-ok c = key_with c.args.spelling c.in-Ok.epc c.in-Some.scheme c.args.text.now c.in-Some.rest.now c.in-Ok.ensures.scheme c.in-Some.ensures.some.begins c.in-Ok.ensures.ok
