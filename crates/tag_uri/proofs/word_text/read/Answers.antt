use Rattle.std.proofs.Common.{List, ℕ, sym, subst, inl, inr}
use Rattle.tag_uri.specs.TagText.{raw_start, HasRawFault}
use Rattle.tag_uri.proofs.TextLaws.{begins}
use Rattle.tag_uri.proofs.word_text.read.Goals as goal

pub returns-in-Err-clause-err : goal.returns-in-Err-clause-err
returns-in-Err-clause-err c =
    let e = begins raw_start c.args.text.now c.in-Some.rest.now c.in-Some.ensures.cases in
    inl (c.in-Some.rest.now, e, subst (λ (t : List ℕ). HasRawFault t c.in-Err.fault) (sym e) c.in-Err.ensures.err)

pub returns-in-Err-parse-clause-err : goal.returns-in-Err-parse-clause-err
returns-in-Err-parse-clause-err c = inr (c.in_default.ensures.cases, c.in-Err-parse.ensures.err)
