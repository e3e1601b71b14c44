use Rattle.std.proofs.Common.{◌≡◌, List, length, map, ap, arith, refl}
use Rattle.std.proofs.lemmas.Result.{err_from_is_err_and}
use Rattle.llrp_schema.specs.declared.kinds.Kind.TheVariants.{Parameter}
use Rattle.llrp_schema.specs.Schema.{FieldRule}
use Rattle.llrp_schema.specs.Calls.Schema.{field_rule}
use Rattle.llrp_listing.specs.Private.Splits.{words_in}
use Rattle.llrp_listing.specs.Private.LineReading.{forms_of}
use Rattle.llrp_listing.proofs.BodyWords.{parameter_fields_bad, rest_count, parameter_tail_bad, parameter_read}
use Rattle.llrp_listing.proofs.LineWords.{few_forms, parameter_forms}
use Rattle.llrp_listing.proofs.parse_line.read_parameter.Goals as goal

pub read_fields-requires-clause-room : goal.read_fields-requires-clause-room
read_fields-requires-clause-room c =
    let e = ap (λ (r : List FieldRule). length (forms_of r)) c.fields.ensures in
    let none : length c.new-fields.result.items ≡ 0 = ap length c.new-fields.ensures in
    omega (arith, e, few_forms (Parameter c.args.kind), none)

pub read_fields-requires-clause-words : goal.read_fields-requires-clause-words
read_fields-requires-clause-words c =
    let e = ap (λ (r : List FieldRule). length (forms_of r)) c.fields.ensures in
    omega (arith, e, c.requires, parameter_forms c.args.kind)

pub returns-in_err-rest : goal.returns-in_err-rest
returns-in_err-rest c =
    let p = err_from_is_err_and c.from_residual.result c.from_residual.ensures.1 in
    rw (p.1, p.2) (parameter_fields_bad c.args.level c.args.kind (words_in c.args.words) c.new-fields.result.items c.read_fields.new.fields.items (map field_rule c.fields.result.now) c.in_err-rest.field-0.0 c.fields.ensures c.in_err-rest.ensures)

pub read_rest-requires : goal.read_rest-requires
read_rest-requires c = rest_count c.args.kind (words_in c.args.words) c.new-fields.result.items c.read_fields.new.fields.items (map field_rule c.fields.result.now) c.in_ok-rest.rest c.tail.result c.fields.ensures c.new-fields.ensures c.in_ok-rest.ensures c.requires c.tail.ensures

pub returns-in_err-tail : goal.returns-in_err-tail
returns-in_err-tail c =
    let p = err_from_is_err_and c.from_residual-in_err-tail.result c.from_residual-in_err-tail.ensures.1 in
    rw (p.1, p.2) (parameter_tail_bad c.args.level c.args.kind (words_in c.args.words) c.new-fields.result.items c.read_fields.new.fields.items (map field_rule c.fields.result.now) c.in_ok-rest.rest c.tail.result c.in_err-tail.field-0.0 c.fields.ensures c.new-fields.ensures c.in_ok-rest.ensures c.tail.ensures c.in_err-tail.ensures)

pub returns : goal.returns
returns c =
    parameter_read c.args.level c.args.kind (words_in c.args.words) c.new-fields.result.items (record { level = c.args.level; kind = c.args.kind; fields = c.read_fields.new.fields; tail = c.in_ok-tail.tail }) (map field_rule c.fields.result.now) c.in_ok-rest.rest c.tail.result c.fields.ensures c.new-fields.ensures c.in_ok-rest.ensures c.tail.ensures c.in_ok-tail.ensures refl refl
