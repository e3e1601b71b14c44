use Rattle.std.proofs.Common.{rules, ◌≡◌}
use Rattle.llrp_listing.specs.declared.outcome.ToolErr.TheVariants.{Listing}
use Rattle.llrp_texts.proofs.TextLemmas.{listing_refused}
use Rattle.llrp_texts.proofs.texts.encoded.Goals as goal

pub returns-in-Err-Listing-clause-refused : goal.returns-in-Err-Listing-clause-refused
returns-in-Err-Listing-clause-refused c =
    let e = c.in-Err-Listing in
    let listing : e.field-0 ≡ Listing e.line e.reason = search rules in
    listing_refused c.args.set c.args.limit c.run_encode_in-outcome.result e.field-0 e.line e.reason _ _ _ _ c.args.text.now e.is listing c.run_encode_in-outcome.ensures.stopped (search rules)
