use Rattle.std.proofs.Common.{◌≡◌, [], ◌∷◌, List, Option, Ok, length, sym, ap, subst, ◌∙◌, arith}
use Rattle.std.proofs.lemmas.List.{append-nil}
use Rattle.std.proofs.lemmas.Result.{err_from_is_err_and}
use Rattle.llrp_listing.specs.Private.LineReading.{ReadsFields}
use Rattle.llrp_listing.specs.NodeLine.{NumberForm}
use Rattle.llrp_listing.specs.Private.Splits.{words_in}
use Rattle.llrp_listing.proofs.BodyWords.{fewer_fields, field_bad, fields_more, forms_none, forms_plain, forms_reserved, read_none}
use Rattle.llrp_listing.proofs.parse_line.+read_fields.Goals as goal

pub read_fields-requires : goal.read_fields-requires
read_fields-requires t c =
    let forms = forms_reserved c.args.rules.now _ c.in-len1-up.len_at_least c.if-rule.true in (
      omega (arith, c.decreases, fewer_fields c.args.rules.now c.in-len1-up.len_at_least),
      (omega (arith, c.requires.room, ap length forms), omega (arith, c.requires.words, ap length forms)),
    )

pub returns-then-rule : goal.returns-then-rule
returns-then-rule t c =
    let forms = forms_reserved c.args.rules.now _ c.in-len1-up.len_at_least c.if-rule.true in
    subst (λ (fs : List NumberForm). ReadsFields fs (words_in c.args.words) c.args.fields.now.items c.read_fields.new.fields.items c.read_fields.result) (sym forms) c.read_fields.ensures

pub unreachable-requires : goal.unreachable-requires
unreachable-requires t c =
    let forms = forms_plain c.args.rules.now _ c.in-len1-up.len_at_least c.if-rule.false in
    let none = ap (λ (z : Option _). length (words_in z)) c.in_default.is in
    absurd (omega (arith, c.requires.words, ap length forms, none))

pub push-requires : goal.push-requires
push-requires t c =
    let forms = forms_plain c.args.rules.now _ c.in-len1-up.len_at_least c.if-rule.false in
    (omega arith, omega (arith, c.requires.room, ap length forms))

pub read_fields-requires-in-len1-up : goal.read_fields-requires-in-len1-up
read_fields-requires-in-len1-up t c =
    let forms = forms_plain c.args.rules.now _ c.in-len1-up.len_at_least c.if-rule.false in
    let all : words_in c.args.words ≡ c.first_word.result.0.now ∷ words_in c.first_word.result.1 = ap words_in c.in-Some.is ∙ c.first_word.ensures in (
      omega (arith, c.decreases, fewer_fields c.args.rules.now c.in-len1-up.len_at_least),
      (omega (arith, c.requires.room, ap length forms, c.push.ensures.len), omega (arith, c.requires.words, ap length forms, ap length all)),
    )

pub returns-in-empty : goal.returns-in-empty
returns-in-empty t c =
    let forms = forms_none c.args.rules.now c.in-empty.len_below in
    let items = c.args.fields.now.items in
    let read : ReadsFields [] (words_in c.args.words) items items (Ok c.args.words) = ([], read_none (words_in c.args.words), sym (append-nil items)) in
    subst (λ (fs : List NumberForm). ReadsFields fs (words_in c.args.words) items items (Ok c.args.words)) (sym forms) read

pub returns-in_err-read_field-in-len1-up : goal.returns-in_err-read_field-in-len1-up
returns-in_err-read_field-in-len1-up t c =
    let p = err_from_is_err_and c.from_residual.result c.from_residual.ensures.1 in
    let all : words_in c.args.words ≡ c.first_word.result.0.now ∷ words_in c.first_word.result.1 = ap words_in c.in-Some.is ∙ c.first_word.ensures in
    let items = c.args.fields.now.items in
    rw (p.1, p.2) (field_bad c.args.rules.now _ c.first_word.result.0.now _ (words_in c.args.words) items items c.in_err-read_field-in-len1-up.field-0.0 c.in-len1-up.len_at_least c.if-rule.false all c.in_err-read_field-in-len1-up.ensures)

pub returns-in_ok-read_field-in-len1-up : goal.returns-in_ok-read_field-in-len1-up
returns-in_ok-read_field-in-len1-up t c =
    let all : words_in c.args.words ≡ c.first_word.result.0.now ∷ words_in c.first_word.result.1 = ap words_in c.in-Some.is ∙ c.first_word.ensures in
    fields_more c.args.rules.now _ c.first_word.result.0.now (words_in c.first_word.result.1) (words_in c.args.words) c.in_ok-read_field-in-len1-up.field-0 c.args.fields.now.items c.push.new.self.items c.read_fields-in-len1-up.new.fields.items c.read_fields-in-len1-up.result c.in-len1-up.len_at_least c.if-rule.false c.in_ok-read_field-in-len1-up.ensures c.push.ensures.items all c.read_fields-in-len1-up.ensures
