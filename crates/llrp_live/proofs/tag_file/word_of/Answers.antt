use Rattle.std.proofs.Common.{List, ℕ, sym, subst}
use Rattle.tag_uri.specs.TagText.{IsTextOf}
use Rattle.llrp_listing.proofs.SplitWords.{at_none}
use Rattle.llrp_endpoints.proofs.WordTexts.{no_text, that_text}
use Rattle.tag_uri.proofs.UriLemmas.{word_text_utf8 as utf8_text}
use Rattle.llrp_live.proofs.tag_file.word_of.Goals as goal

pub returns-in_err-text : goal.returns-in_err-text
returns-in_err-text c = at_none _ _ _ c.from_residual.ensures (λ word lt e. no_text _ c.from_utf8.result c.args.bytes.now c.in_err-text.ensures.value c.from_utf8.ensures.cases (utf8_text word c.args.bytes.now e))

pub returns-in-Err : goal.returns-in-Err
returns-in-Err c = λ word lt e.
    let is = that_text _ c.from_utf8.result c.args.bytes.now c.in_ok-text.text c.in_ok-text.ensures.value c.from_utf8.ensures.cases in
    let no_word = c.in-Err.ensures.accepts word lt (subst (λ (t : List ℕ). IsTextOf word t) (sym is) e) in cc
