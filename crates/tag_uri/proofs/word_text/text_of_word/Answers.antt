use Rattle.std.proofs.Common.{ℕ, List, sym, ◌∙◌, subst}
use Rattle.std.specs.Str.{IsUtf8}
use Rattle.tag_uri.specs.TagText.{IsTextOf}
use Rattle.tag_uri.proofs.UriLemmas.{text_at_start, word_text_utf8}
use Rattle.tag_uri.proofs.word_text.text_of_word.Goals as goal

pub text_before-requires-clause-text : goal.text_before-requires-clause-text
text_before-requires-clause-text c =
    let t = c.put_text_of_word-end.ensures.text in
    subst IsUtf8 (sym (text_at_start _ _ _ _ t.2)) (word_text_utf8 c.args.word t.0 t.1)

pub returns : goal.returns
returns c =
    let t = c.put_text_of_word-end.ensures.text in
    subst (λ (x : List ℕ). IsTextOf c.args.word x) (sym (c.text_before.ensures ∙ text_at_start _ _ _ _ t.2)) t.1
