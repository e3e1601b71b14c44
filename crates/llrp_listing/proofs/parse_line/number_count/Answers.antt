use Rattle.std.proofs.Common.{◌+◌, List, ℕ, sym, ◌∙◌, ap, arith, length}
use Rattle.llrp_schema.specs.declared.kinds.Kind.{Kind}
use Rattle.llrp_schema.specs.Schema.{FieldRule, fields_of}
use Rattle.llrp_listing.specs.Private.LineReading.{forms_of}
use Rattle.llrp_listing.specs.NodeLine.{number_forms}
use Rattle.llrp_listing.proofs.LineWords.{few_forms, message_forms, parameter_forms}
use Rattle.llrp_listing.proofs.parse_line.number_count.Goals as goal

pub overflow_add-result : goal.overflow_add-result
overflow_add-result c = let e = c.plain_count-fields.ensures ∙ ap (λ (r : List FieldRule). length (forms_of r)) c.fields.ensures in omega (arith, e, few_forms c.args.kind)

pub returns-in-Message-clause-value : goal.returns-in-Message-clause-value
returns-in-Message-clause-value c =
    let e = c.plain_count-fields.ensures ∙ ap (λ (r : List FieldRule). length (forms_of r)) c.fields.ensures in
    ap (λ (n : ℕ). 2 + n) (e ∙ ap (λ (k : Kind). length (forms_of (fields_of k))) c.in-Message.is) ∙ sym (message_forms c.in-Message.field-0) ∙ ap (λ (k : Kind). length (number_forms k)) (sym c.in-Message.is)

pub returns-in-Message-clause-few : goal.returns-in-Message-clause-few
returns-in-Message-clause-few c = let e = c.plain_count-fields.ensures ∙ ap (λ (r : List FieldRule). length (forms_of r)) c.fields.ensures in omega (arith, e, few_forms c.args.kind)

pub returns-in-Parameter-clause-value : goal.returns-in-Parameter-clause-value
returns-in-Parameter-clause-value c =
    let e = c.plain_count-fields.ensures ∙ ap (λ (r : List FieldRule). length (forms_of r)) c.fields.ensures in
    e ∙ ap (λ (k : Kind). length (forms_of (fields_of k))) c.in-Parameter.is ∙ sym (parameter_forms c.in-Parameter.field-0) ∙ ap (λ (k : Kind). length (number_forms k)) (sym c.in-Parameter.is)

pub returns-in-Parameter-clause-few : goal.returns-in-Parameter-clause-few
returns-in-Parameter-clause-few c = let e = c.plain_count-fields.ensures ∙ ap (λ (r : List FieldRule). length (forms_of r)) c.fields.ensures in omega (arith, e, few_forms c.args.kind)
