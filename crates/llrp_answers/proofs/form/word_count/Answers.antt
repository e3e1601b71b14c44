use Rattle.std.proofs.Common.{List, length, ap, ◌∙◌, arith}
use Rattle.llrp_schema.specs.declared.kinds.Kind.TheVariants.{Message}
use Rattle.llrp_schema.specs.Schema.{FieldRule}
use Rattle.llrp_schema.proofs.TableLaws.{few_plain_fields}
use Rattle.llrp_answers.specs.Private.Words.{plain}
use Rattle.llrp_answers.proofs.FormLemmas.{with_tail, without_tail}
use Rattle.llrp_answers.proofs.form.word_count.Goals as goal

pub overflow_add-result : goal.overflow_add-result
overflow_add-result c = let e = c.plain_count-plain.ensures ∙ ap (λ (r : List FieldRule). length (plain r)) c.fields.ensures in omega (arith, e, few_plain_fields (Message c.args.kind))

pub overflow_add-result-in_default : goal.overflow_add-result-in_default
overflow_add-result-in_default c = let e = c.plain_count-plain.ensures ∙ ap (λ (r : List FieldRule). length (plain r)) c.fields.ensures in omega (arith, e, few_plain_fields (Message c.args.kind))

pub returns-in-Absent : goal.returns-in-Absent
returns-in-Absent c = without_tail c.args.kind c.plain_count-plain.result c.tail.result (c.plain_count-plain.ensures ∙ ap (λ (r : List FieldRule). length (plain r)) c.fields.ensures) c.tail.ensures c.in-Absent.is

pub returns-in_default : goal.returns-in_default
returns-in_default c = with_tail c.args.kind c.plain_count-plain.result c.tail.result (c.plain_count-plain.ensures ∙ ap (λ (r : List FieldRule). length (plain r)) c.fields.ensures) c.tail.ensures c.in_default.not-Absent
