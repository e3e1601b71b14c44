use Rattle.std.proofs.Common.{◌≡◌, ◌++◌, ◌∙◌, List, ℕ, ap, codes, subst, sym}
use Rattle.llrp_live.specs.Calls.Lines.{IsTagsLine}
use Rattle.llrp_live.proofs.LineLemmas.{prefixed}
use Rattle.llrp_live.proofs.script_lines.own_deeds.own_deed_of.Goals as goal

pub returns-in-Some : goal.returns-in-Some
returns-in-Some c =
    let seen = c.in-Some.ensures.cases in
    let words = c.in-Some.words.now in
    let is : c.args.text.now ≡ codes "seen " ++ words = prefixed c.args.text.now c.as_slice-3.result.now words seen.0 seen.1 ∙ ap (λ (x : List ℕ). x ++ words) c.as_slice-3.ensures in
    subst (λ (x : List ℕ). IsTagsLine c.in_ok-rounds_of.field-0 x) (sym is) c.in_ok-rounds_of.ensures
