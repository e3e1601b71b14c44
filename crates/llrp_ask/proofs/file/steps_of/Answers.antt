use Rattle.std.proofs.Common.{List, ℕ, ◌+◌, length, refl, sym, ap, subst, ◌∙◌, arith}
use Rattle.std.proofs.lemmas.Result.{err_from_is_err_and}
use Rattle.llrp_schema.specs.declared.kinds.KindSet.TheVariants.{Standard}
use Rattle.llrp_tree.specs.declared.TheConstants.{MAX_LIMIT}
use Rattle.llrp_texts.specs.Calls.Texts.{RefusesText}
use Rattle.llrp_ask.specs.Calls.File.{ListsSteps, lines_in}
use Rattle.llrp_ask.specs.Calls.Files.{RefusesFile}
use Rattle.llrp_ask.proofs.FileLemmas.{ends_there, goes_there, not_zero, refused_end, refused_later, refused_own, shorter}
use Rattle.llrp_ask.proofs.file.steps_of.Goals as goal

pub returns-in-Err-clause-refused : goal.returns-in-Err-clause-refused
returns-in-Err-clause-refused c = subst (RefusesFile c.args.raw c.args.text.now) (sym c.later_error.ensures) (refused_later c.args.raw c.args.text.now c.parts.rest.now c.parts.steps.items c.parts.lines c.in-Err.error c.parts.invariant.leads (subst (λ (x : List ℕ). RefusesText Standard MAX_LIMIT x c.in-Err.error) (c.split_at.ensures.front ∙ c.listed_octets.ensures.before) c.in-Err.ensures.refused))

pub returns-then-is_empty-clause-steps : goal.returns-then-is_empty-clause-steps
returns-then-is_empty-clause-steps c =
    let more = c.in-Ok.ensures.steps in
    ends_there c.args.raw c.args.text.now c.parts.rest.now c.split_at.result.1.now c.parts.steps.items more.0 c.push_listing.new.steps.items c.parts.lines c.parts.invariant.leads (subst (λ (x : List ℕ). ListsSteps x more.0) (c.split_at.ensures.front ∙ c.listed_octets.ensures.before) more.1)
    (c.split_at.ensures.back ∙ c.listed_octets.ensures.after) (sym c.if-is_empty.ensures) more.2

pub returns-in_default-clause-refused : goal.returns-in_default-clause-refused
returns-in_default-clause-refused c =
    let more = c.in-Ok.ensures.steps in
    let few = c.parts.invariant.few in
    let some = not_zero (length c.split_at.result.1.now) (sym c.if-is_empty.ensures) in
    refused_end c.args.raw c.args.text.now c.parts.rest.now c.split_at.result.1.now c.parts.steps.items more.0 c.parts.lines c.count_lines.result c.parts.invariant.leads (subst (λ (x : List ℕ). ListsSteps x more.0) (c.split_at.ensures.front ∙ c.listed_octets.ensures.before) more.1)
    (c.split_at.ensures.back ∙ c.listed_octets.ensures.after) (sym c.if-is_empty.ensures) c.in_default.ensures (c.count_lines.ensures.count ∙ ap lines_in (c.split_at.ensures.front ∙ c.listed_octets.ensures.before)) (omega (arith, few, some, c.count_lines.ensures.within, c.split_at.ensures.front_len, c.split_at.ensures.back_len))

pub returns-in_err-own_step-clause-refused : goal.returns-in_err-own_step-clause-refused
returns-in_err-own_step-clause-refused c =
    let more = c.in-Ok.ensures.steps in
    let few = c.parts.invariant.few in
    let some = not_zero (length c.split_at.result.1.now) (sym c.if-is_empty.ensures) in
    let p = err_from_is_err_and c.from_residual.result c.from_residual.ensures.1 in
    rw (p.1, p.2) (refused_own c.args.raw c.args.text.now c.parts.rest.now c.split_at.result.1.now c.in-Some.line.now c.in-Some.after.now c.parts.steps.items more.0 c.parts.lines c.count_lines.result (c.parts.lines + (c.count_lines.result + 1)) c.in_err-own_step.field-0.0 c.parts.invariant.leads
    (subst (λ (x : List ℕ). ListsSteps x more.0) (c.split_at.ensures.front ∙ c.listed_octets.ensures.before) more.1) (c.split_at.ensures.back ∙ c.listed_octets.ensures.after) c.in-Some.ensures refl c.in_err-own_step.ensures.refused (c.count_lines.ensures.count ∙ ap lines_in (c.split_at.ensures.front ∙ c.listed_octets.ensures.before))
    (omega (arith, few, some, c.count_lines.ensures.within, c.split_at.ensures.front_len, c.split_at.ensures.back_len)))

pub parts-preserved : goal.parts-preserved
parts-preserved c =
    let more = c.in-Ok.ensures.steps in
    let few = c.parts.invariant.few in
    let less = shorter c.split_at.result.1.now c.in-Some.line.now c.in-Some.after.now c.in-Some.ensures in
    record {
      leads = goes_there c.args.raw c.args.text.now c.parts.rest.now c.split_at.result.1.now c.in-Some.line.now c.in-Some.after.now c.parts.steps.items more.0 c.push_listing.new.steps.items c.push.new.self.items c.in_ok-own_step.field-0 c.parts.lines c.count_lines.result c.parts.invariant.leads
          (subst (λ (x : List ℕ). ListsSteps x more.0) (c.split_at.ensures.front ∙ c.listed_octets.ensures.before) more.1) (c.split_at.ensures.back ∙ c.listed_octets.ensures.after) c.in-Some.ensures c.in_ok-own_step.ensures.step (c.count_lines.ensures.count ∙ ap lines_in (c.split_at.ensures.front ∙ c.listed_octets.ensures.before)) more.2 c.in_ok-push.ensures.items;
      few = omega (arith, few, less, c.count_lines.ensures.within, c.split_at.ensures.front_len, c.split_at.ensures.back_len);
    }
