use Rattle.std.proofs.Common.{rules, ◌≡◌, ◌∙◌, ap, sym, inl, arith, ◌==◌, List, ℕ, length}
use Rattle.llrp_listing.specs.declared.outcome.ToolErr.TheVariants.{Listing}
use Rattle.llrp_endpoints.specs.Calls.PlanTexts.{line_below}
use Rattle.llrp_endpoints.proofs.PlanTextLemmas.{listing_refused, refused_first, refused_later}
use Rattle.llrp_endpoints.proofs.plan.text.encoded.Goals.{then-line-gt1, else-line-gt1}
use Rattle.llrp_endpoints.proofs.plan.text.encoded.Goals as goal

pub returns-then-is_empty-clause-refused : goal.returns-then-is_empty-clause-refused
returns-then-is_empty-clause-refused c =
    let e = c.in-Err-Listing in
    let listing : e.field-0 ≡ Listing e.line e.reason = search rules in
    let refused = listing_refused c.args.set c.run_encode_in-outcome.result e.field-0 e.line e.reason _ _ _ _ c.args.text.now c.into_inner-octets.result.items e.is listing c.run_encode_in-outcome.ensures.stopped (search rules) (search rules) (search rules) in
    let line : c.if-line-gt1.line ≡ line_below e.line =
    elim c.if-line-gt1.branch [ then-line-gt1 w ↦ omega (arith, w.line-is, w.if-line-gt1.true) | else-line-gt1 w ↦ omega (arith, w.line-is, w.if-line-gt1.false) ] in
    inl (refused_first c.args.set c.args.text.now c.into_inner-octets.result.items e.line c.if-line-gt1.line e.reason refused (ap (λ (x : List ℕ). length x == 0) (sym c.as_slice.ensures.value) ∙ sym c.is_empty.ensures ∙ c.if-is_empty.true) line)

pub another-requires : goal.another-requires
another-requires c =
    let e = c.in-Err-Listing in
    let listing : e.field-0 ≡ Listing e.line e.reason = search rules in
    let refused = listing_refused c.args.set c.run_encode_in-outcome.result e.field-0 e.line e.reason _ _ _ _ c.args.text.now c.into_inner-octets.result.items e.is listing c.run_encode_in-outcome.ensures.stopped (search rules) (search rules) (search rules) in
    refused_later c.args.set c.args.text.now c.into_inner-octets.result.items e.line e.reason refused (ap (λ (x : List ℕ). length x == 0) (sym c.as_slice.ensures.value) ∙ sym c.is_empty.ensures ∙ c.if-is_empty.false)
