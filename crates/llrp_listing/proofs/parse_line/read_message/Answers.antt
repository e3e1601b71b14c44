use Rattle.std.proofs.Common.{◌≡◌, ◌∷◌, List, ℕ, Option, length, map, ap, ◌∙◌, arith, refl}
use Rattle.std.proofs.lemmas.Result.{err_from_is_err_and}
use Rattle.llrp_schema.specs.declared.kinds.Kind.TheVariants.{Message}
use Rattle.llrp_schema.specs.Schema.{FieldRule}
use Rattle.llrp_schema.specs.Calls.Schema.{field_rule}
use Rattle.llrp_listing.specs.Private.Splits.{words_in}
use Rattle.llrp_listing.specs.Private.LineReading.{forms_of}
use Rattle.llrp_listing.proofs.BodyWords.{version_bad, id_bad, fields_bad, message_numbers, message_read, message_rest, message_tail_bad}
use Rattle.llrp_listing.proofs.LineWords.{few_forms, message_forms}
use Rattle.llrp_listing.proofs.parse_line.read_message.Goals as goal

pub unreachable-requires : goal.unreachable-requires
unreachable-requires c =
    let none = ap (λ (z : Option _). length (words_in z)) c.in_default.is in
    absurd (omega (arith, none, c.requires, message_forms c.args.kind))

pub returns-in_err-version : goal.returns-in_err-version
returns-in_err-version c =
    let p = err_from_is_err_and c.from_residual.result c.from_residual.ensures.1 in
    let all : words_in c.args.words ≡ c.first_word.result.0.now ∷ words_in c.first_word.result.1 = ap words_in c.in-Some.is ∙ c.first_word.ensures in
    rw (p.1, p.2) (version_bad c.args.kind c.first_word.result.0.now _ (words_in c.args.words) c.in_err-version.field-0.0 all c.in_err-version.ensures)

pub unreachable-requires-in_default-words : goal.unreachable-requires-in_default-words
unreachable-requires-in_default-words c =
    let all : words_in c.args.words ≡ c.first_word.result.0.now ∷ words_in c.first_word.result.1 = ap words_in c.in-Some.is ∙ c.first_word.ensures in
    let none = ap (λ (z : Option _). length (words_in z)) c.in_default-words.is in
    absurd (omega (arith, none, ap length all, c.requires, message_forms c.args.kind))

pub returns-in_err-id : goal.returns-in_err-id
returns-in_err-id c =
    let p = err_from_is_err_and c.from_residual-in_err-id.result c.from_residual-in_err-id.ensures.1 in
    let all : words_in c.args.words ≡ c.first_word.result.0.now ∷ c.first_word-2.result.0.now ∷ words_in c.first_word-2.result.1 =
    ap words_in c.in-Some.is ∙ c.first_word.ensures ∙ ap (λ (z : List (List ℕ)). c.first_word.result.0.now ∷ z) (ap words_in c.in-Some-words.is ∙ c.first_word-2.ensures) in
    rw (p.1, p.2) (id_bad c.args.kind c.first_word.result.0.now c.first_word-2.result.0.now _ (words_in c.args.words) c.in_ok-version.version c.in_err-id.field-0.0 all c.in_ok-version.ensures c.in_err-id.ensures)

pub read_fields-requires-clause-room : goal.read_fields-requires-clause-room
read_fields-requires-clause-room c =
    let e = ap (λ (r : List FieldRule). length (forms_of r)) c.fields.ensures in
    let none : length c.new-fields.result.items ≡ 0 = ap length c.new-fields.ensures in
    omega (arith, e, few_forms (Message c.args.kind), none)

pub read_fields-requires-clause-words : goal.read_fields-requires-clause-words
read_fields-requires-clause-words c =
    let all : words_in c.args.words ≡ c.first_word.result.0.now ∷ c.first_word-2.result.0.now ∷ words_in c.first_word-2.result.1 =
    ap words_in c.in-Some.is ∙ c.first_word.ensures ∙ ap (λ (z : List (List ℕ)). c.first_word.result.0.now ∷ z) (ap words_in c.in-Some-words.is ∙ c.first_word-2.ensures) in
    let e = ap (λ (r : List FieldRule). length (forms_of r)) c.fields.ensures in
    omega (arith, e, ap length all, c.requires, message_forms c.args.kind)

pub returns-in_err-rest : goal.returns-in_err-rest
returns-in_err-rest c =
    let p = err_from_is_err_and c.from_residual-in_err-rest.result c.from_residual-in_err-rest.ensures.1 in
    let all : words_in c.args.words ≡ c.first_word.result.0.now ∷ c.first_word-2.result.0.now ∷ words_in c.first_word-2.result.1 =
    ap words_in c.in-Some.is ∙ c.first_word.ensures ∙ ap (λ (z : List (List ℕ)). c.first_word.result.0.now ∷ z) (ap words_in c.in-Some-words.is ∙ c.first_word-2.ensures) in
    rw (p.1, p.2) (fields_bad c.args.kind c.first_word.result.0.now c.first_word-2.result.0.now _ (words_in c.args.words) c.in_ok-version.version c.in_ok-id.id c.new-fields.result.items c.read_fields.new.fields.items (map field_rule c.fields.result.now) c.in_err-rest.field-0.0 all c.in_ok-version.ensures c.in_ok-id.ensures c.fields.ensures c.in_err-rest.ensures)

pub read_rest-requires : goal.read_rest-requires
read_rest-requires c =
    let all : words_in c.args.words ≡ c.first_word.result.0.now ∷ c.first_word-2.result.0.now ∷ words_in c.first_word-2.result.1 =
    ap words_in c.in-Some.is ∙ c.first_word.ensures ∙ ap (λ (z : List (List ℕ)). c.first_word.result.0.now ∷ z) (ap words_in c.in-Some-words.is ∙ c.first_word-2.ensures) in
    let read = message_numbers c.args.kind c.first_word.result.0.now c.first_word-2.result.0.now _ (words_in c.args.words) c.in_ok-version.version c.in_ok-id.id c.new-fields.result.items c.read_fields.new.fields.items (map field_rule c.fields.result.now) c.in_ok-rest.rest all c.in_ok-version.ensures c.in_ok-id.ensures c.fields.ensures c.new-fields.ensures c.in_ok-rest.ensures in
    message_rest c.args.kind (words_in c.args.words) _ c.in_ok-rest.rest c.tail.result read c.requires c.tail.ensures

pub returns-in_err-tail : goal.returns-in_err-tail
returns-in_err-tail c =
    let p = err_from_is_err_and c.from_residual-in_err-tail.result c.from_residual-in_err-tail.ensures.1 in
    let all : words_in c.args.words ≡ c.first_word.result.0.now ∷ c.first_word-2.result.0.now ∷ words_in c.first_word-2.result.1 =
    ap words_in c.in-Some.is ∙ c.first_word.ensures ∙ ap (λ (z : List (List ℕ)). c.first_word.result.0.now ∷ z) (ap words_in c.in-Some-words.is ∙ c.first_word-2.ensures) in
    let read = message_numbers c.args.kind c.first_word.result.0.now c.first_word-2.result.0.now _ (words_in c.args.words) c.in_ok-version.version c.in_ok-id.id c.new-fields.result.items c.read_fields.new.fields.items (map field_rule c.fields.result.now) c.in_ok-rest.rest all c.in_ok-version.ensures c.in_ok-id.ensures c.fields.ensures c.new-fields.ensures c.in_ok-rest.ensures in
    rw (p.1, p.2) (message_tail_bad c.args.kind (words_in c.args.words) _ c.in_ok-rest.rest c.tail.result c.in_err-tail.field-0.0 read c.tail.ensures c.in_err-tail.ensures)

pub returns : goal.returns
returns c =
    let all : words_in c.args.words ≡ c.first_word.result.0.now ∷ c.first_word-2.result.0.now ∷ words_in c.first_word-2.result.1 =
    ap words_in c.in-Some.is ∙ c.first_word.ensures ∙ ap (λ (z : List (List ℕ)). c.first_word.result.0.now ∷ z) (ap words_in c.in-Some-words.is ∙ c.first_word-2.ensures) in
    let read = message_numbers c.args.kind c.first_word.result.0.now c.first_word-2.result.0.now _ (words_in c.args.words) c.in_ok-version.version c.in_ok-id.id c.new-fields.result.items c.read_fields.new.fields.items (map field_rule c.fields.result.now) c.in_ok-rest.rest all c.in_ok-version.ensures c.in_ok-id.ensures c.fields.ensures c.new-fields.ensures c.in_ok-rest.ensures in
    message_read c.args.kind (words_in c.args.words) (record { version = c.in_ok-version.version; id = c.in_ok-id.id; kind = c.args.kind; fields = c.read_fields.new.fields; tail = c.in_ok-tail.tail }) c.in_ok-rest.rest c.tail.result refl read c.tail.ensures c.in_ok-tail.ensures
