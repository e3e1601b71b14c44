use Rattle.std.proofs.Common.{◌∙◌, subst}
use Rattle.tag_schemes.specs.declared.fault.SchemeFault.{SchemeFault}
use Rattle.tag_schemes.specs.AllTexts.{HasFaultInAll}
use Rattle.tag_scheme_keys.proofs.TagLaws.{read_word, some_word, tag_fault}
use Rattle.tag_scheme_keys.proofs.tag_text.numbers_with.Goals as goal

pub unreachable-requires : goal.unreachable-requires
unreachable-requires c = some_word c.as_str.result.now c.args.components.now c.args.scheme (c.as_str.ensures.value ∙ c.tag_of-text.ensures) c.in-Ok.word c.in-Ok.ensures.ok c.in-None.ensures.none

pub returns-in-Some-clause-scheme : goal.returns-in-Some-clause-scheme
returns-in-Some-clause-scheme c = (read_word c.as_str.result.now c.args.components.now c.args.scheme (c.as_str.ensures.value ∙ c.tag_of-text.ensures) c.in-Ok.word c.in-Some.numbers c.in-Ok.ensures.ok c.in-Some.ensures.some).0

pub returns-in-Some-clause-ok : goal.returns-in-Some-clause-ok
returns-in-Some-clause-ok c = (read_word c.as_str.result.now c.args.components.now c.args.scheme (c.as_str.ensures.value ∙ c.tag_of-text.ensures) c.in-Ok.word c.in-Some.numbers c.in-Ok.ensures.ok c.in-Some.ensures.some).1

pub returns-in-Err-Tag-clause-err : goal.returns-in-Err-Tag-clause-err
returns-in-Err-Tag-clause-err c = tag_fault c.as_str.result.now c.args.components.now c.args.scheme (c.as_str.ensures.value ∙ c.tag_of-text.ensures) c.in-Err-Tag.fault (subst (λ (x : SchemeFault). HasFaultInAll c.as_str.result.now x) c.in-Err-Tag.field-0-is c.in-Err-Tag.ensures.err)
