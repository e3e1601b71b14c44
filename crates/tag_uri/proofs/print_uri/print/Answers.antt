use Rattle.std.proofs.Common.{sym, ap, ◌∙◌, subst}
use Rattle.std.specs.Str.{IsUtf8}
use Rattle.tag_uri.specs.TagText.{tag_uri}
use Rattle.tag_uri.proofs.UriLemmas.{text_at_start, uri_utf8}
use Rattle.tag_uri.proofs.print_uri.print.Goals as goal

pub text_before-requires-clause-text : goal.text_before-requires-clause-text
text_before-requires-clause-text c = subst IsUtf8 (sym (text_at_start _ _ _ _ c.put_parts-end.ensures.text)) (uri_utf8 c.parts-parts.result c.parts-parts.ensures.lawful)

pub returns : goal.returns
returns c = c.text_before.ensures ∙ text_at_start _ _ _ _ c.put_parts-end.ensures.text ∙ ap tag_uri c.parts-parts.ensures.parts
