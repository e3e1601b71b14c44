use Rattle.std.proofs.Common.{◌≡◌, ◌∙◌, ◌<◌, ◌++◌, List, ℕ, ap, sym, subst, length, take, rules}
use Rattle.std.proofs.lemmas.List.{length-set, take_more_set}
use Rattle.llrp_live.specs.Calls.Lines.{AreNumbers}
use Rattle.llrp_live.proofs.NumberLists.{are_numbers, before_commas, one_number}
use Rattle.llrp_live.proofs.script_lines.tags.numbers_of.Goals as goal

within : (count : ℕ) (xs : List ℕ) → count < 16 → length xs ≡ 16 → count < length xs
within count xs lt is = subst (λ (n : ℕ). count < n) (sym is) lt

pub numbers-preserved : goal.numbers-preserved
numbers-preserved c =
    let xs = c.numbers.numbers in
    let count = c.numbers.count in
    let m = c.in_ok-numbers.field-0 in
    let text = c.args.text.now in
    let after = c.in-Some.after.now in
    let more = take_more_set xs count m (within count xs c.numbers.invariant.0 c.numbers.invariant.1) in (
      search rules,
      length-set xs count m ∙ c.numbers.invariant.1,
      subst (λ (ns : List ℕ). text ≡ before_commas ns ++ after) (sym more)
          (one_number text c.numbers.rest.now c.in-Some.digits.now after (take count xs) m c.numbers.invariant.2 c.in-Some.ensures.1 c.in_ok-numbers.ensures.1),
    )

pub returns : goal.returns
returns c =
    let xs = c.numbers.numbers in
    let count = c.numbers.count in
    let m = c.in_ok-numbers-2.field-0 in
    let text = c.args.text.now in
    subst (λ (ns : List ℕ). AreNumbers ns text) (sym (take_more_set xs count m (within count xs c.numbers.invariant.0 c.numbers.invariant.1)))
    (are_numbers (take count xs) m text (c.numbers.invariant.2 ∙ ap (λ (x : List ℕ). before_commas (take count xs) ++ x) c.in_ok-numbers-2.ensures.1))
