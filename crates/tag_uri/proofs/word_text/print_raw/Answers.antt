use Rattle.std.proofs.Common.{sym, ◌∙◌, subst}
use Rattle.std.specs.Str.{IsUtf8}
use Rattle.tag_uri.proofs.UriLemmas.{text_at_start, raw_utf8}
use Rattle.tag_uri.proofs.word_text.print_raw.Goals as goal

pub text_before-requires-clause-text : goal.text_before-requires-clause-text
text_before-requires-clause-text c = subst IsUtf8 (sym (text_at_start _ _ _ _ c.put_raw_uri-end.ensures.text)) (raw_utf8 c.args.word)

pub returns : goal.returns
returns c = c.text_before.ensures ∙ text_at_start _ _ _ _ c.put_raw_uri-end.ensures.text
