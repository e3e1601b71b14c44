use Rattle.std.proofs.Common.{◌≡◌, ◌∙◌, true, false, sym, arith}
use Rattle.llrp_listing.specs.Lines.{lines_of}
use Rattle.llrp_endpoints.specs.Calls.PlanTexts.{first_top}
use Rattle.llrp_endpoints.proofs.PlanTextLemmas.{top_here, top_later, shorter, top_none, top_last, top_past}
use Rattle.llrp_endpoints.proofs.plan.text.first_top.Goals.{then-is_empty, else-is_empty}
use Rattle.llrp_endpoints.proofs.plan.text.first_top.Goals as goal

pub returns-then-is_top : goal.returns-then-is_top
returns-then-is_top c =
    let here = top_here c.loop-before.rest.now c.in-Some.before.now c.in-Some.after.now c.in-Some.ensures (sym c.is_top.ensures ∙ c.if-is_top.true) in
    omega (arith, here, c.loop-before.invariant.0)

pub loop-before-preserved : goal.loop-before-preserved
loop-before-preserved c =
    let later = top_later c.loop-before.rest.now c.in-Some.before.now c.in-Some.after.now c.in-Some.ensures (sym c.is_top.ensures ∙ c.if-is_top.false) in
    let less = shorter c.loop-before.rest.now c.in-Some.before.now c.in-Some.after.now c.in-Some.ensures in
    (omega (arith, later, c.loop-before.invariant.0), omega (arith, less, c.loop-before.invariant.1))

pub returns-then-is_top-2 : goal.returns-then-is_top-2
returns-then-is_top-2 c =
    let rest = c.loop-before.rest.now in
    let one : first_top (lines_of rest) ≡ 1 =
    elim c.if-is_empty.branch [
      | then-is_empty w ↦ top_none rest (sym c.is_empty.ensures ∙ w.if-is_empty.true)
      | else-is_empty w ↦ top_last rest c.in_default.ensures (sym w.is_top-else-is_empty.ensures ∙ sym w.value-is ∙ c.if-is_top-2.true)
    ] in
    omega (arith, one, c.loop-before.invariant.0)

pub returns-else-is_top-2 : goal.returns-else-is_top-2
returns-else-is_top-2 c =
    let rest = c.loop-before.rest.now in
    let two : first_top (lines_of rest) ≡ 2 =
    elim c.if-is_empty.branch [
      | then-is_empty w ↦ let no : true ≡ false = sym w.if-is_empty.true ∙ sym w.value-is ∙ c.if-is_top-2.false in cc
      | else-is_empty w ↦ top_past rest c.in_default.ensures (sym c.is_empty.ensures ∙ w.if-is_empty.false) (sym w.is_top-else-is_empty.ensures ∙ sym w.value-is ∙ c.if-is_top-2.false)
    ] in
    omega (arith, two, c.loop-before.invariant.0)
