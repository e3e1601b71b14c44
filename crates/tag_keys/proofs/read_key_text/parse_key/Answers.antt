use Rattle.std.proofs.Common.{Ok, ap, ◌∙◌}
use Rattle.tag_keys.proofs.KeyLaws.{one_key, no_key_fault}
use Rattle.tag_keys.proofs.read_key_text.parse_key.Goals as goal

pub returns-in-Ok-clause-accepts : goal.returns-in-Ok-clause-accepts
returns-in-Ok-clause-accepts c = λ epc lawful f d t. ap Ok (c.of_parts.ensures ∙ one_key c.args.spelling c.in-Ok.parts epc c.args.filter c.args.company_digits c.args.text.now c.in-Ok.ensures.lawful lawful c.in-Ok.ensures.asked.0 f c.in-Ok.ensures.asked.1 d c.in-Ok.ensures.ok t)

pub returns-in-Err-clause-accepts : goal.returns-in-Err-clause-accepts
returns-in-Err-clause-accepts c = λ epc lawful f d t. absurd (no_key_fault c.args.spelling epc c.args.filter c.args.company_digits c.args.text.now c.in-Err.fault lawful f d t c.in-Err.ensures.err)
