use Rattle.std.proofs.Common.{◌≡◌, ◌++◌, List, ℕ, codes, refl, inr}
use Rattle.std.proofs.lemmas.Bool.{le-ltb}
use Rattle.std.proofs.lemmas.Result.{IfOk-weaker}
use Rattle.tag_forms.specs.Wanted.{IsWantedAnswer, line_refusal}
use Rattle.tag_forms.specs.Lists.{IsLineAnswer}
use Rattle.tag_forms.proofs.ListLemmas.{text_line}
use Rattle.tag_forms.proofs.list.push_line.Goals as goal

pub returns-in-Ok : goal.returns-in-Ok
returns-in-Ok c =
    let few = le-ltb 4096 _ c.if-line-gt-LONGEST_LINE.false in
    IfOk-weaker c.push_wanted.result
    (λ refused. (x : List ℕ) × IsWantedAnswer c.args.to c.args.filter c.digits_of.result c.in-Ok.text.now refused x × (c.push_wanted.new.answers.items ≡ c.args.answers.now.items ++ x))
    (λ refused. (x : List ℕ) × IsLineAnswer c.args.to c.args.filter c.args.company c.args.line.now refused x × (c.push_wanted.new.answers.items ≡ c.args.answers.now.items ++ x))
    (λ refused h. (h.0, text_line c.args.to c.args.filter c.args.company c.digits_of.result c.args.line.now c.without_return.result.now c.in-Ok.text.now refused h.0 few c.without_return.ensures c.in-Ok.ensures.cases.0 c.in-Ok.ensures.cases.1 c.digits_of.ensures.count h.1, h.2))
    c.push_wanted.ensures

pub returns-in_ok-push_line_refusal-in-Err : goal.returns-in_ok-push_line_refusal-in-Err
returns-in_ok-push_line_refusal-in-Err c =
    let few = le-ltb 4096 _ c.if-line-gt-LONGEST_LINE.false in
    (line_refusal c.args.to (codes "Utf8"), inr (few, c.without_return.result.now, c.without_return.ensures, inr (c.in-Err.ensures.cases.0, refl, refl)), c.in_ok-push_line_refusal-in-Err.ensures)
