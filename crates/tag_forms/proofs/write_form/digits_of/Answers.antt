use Rattle.std.proofs.Common.{◌++◌, sym, ◌∙◌}
use Rattle.std.proofs.lemmas.List.{append_cancel_left}
use Rattle.tag_uri.specs.Hexadecimal.{hexadecimal}
use Rattle.tag_uri.specs.TagText.{raw_start, raw_length}
use Rattle.tag_uri.proofs.TextLaws.{begins, raw_is}
use Rattle.tag_forms.proofs.write_form.digits_of.Goals as goal

pub unreachable-requires : goal.unreachable-requires
unreachable-requires c = c.in-None.ensures.cases (hexadecimal 24 c.args.word) (c.as_str.ensures.value ∙ c.print_raw-raw.ensures ∙ raw_is c.args.word)

pub returns : goal.returns
returns c =
    let e = begins (raw_start ++ raw_length) c.as_str.result.now c.in-Some.digits.now c.in-Some.ensures.cases in
    c.copied.ensures ∙ append_cancel_left (raw_start ++ raw_length) c.in-Some.digits.now (hexadecimal 24 c.args.word) (sym e ∙ c.as_str.ensures.value ∙ c.print_raw-raw.ensures ∙ raw_is c.args.word)
