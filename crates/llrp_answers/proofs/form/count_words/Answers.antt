use Rattle.std.proofs.Common.{◌≡◌, ◌+◌, sym, ap, ◌∙◌, rules}
use Rattle.std.specs.Prelude.{count_by, ◌==◌}
use Rattle.std.proofs.lemmas.List.Splits.{length-slice_split}
use Rattle.llrp_answers.proofs.form.count_words.Goals as goal

pub returns : goal.returns
returns c =
    let count : c.count.result ≡ count_by (λ b. b == 32) c.args.line.now = search rules in
    ap (λ n. n + 1) count ∙ sym (length-slice_split (λ b. b == 32) c.args.line.now)
