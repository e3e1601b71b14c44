use Rattle.std.proofs.Common.{◌≡◌, List, ℕ, sym, subst}
use Rattle.llrp_tree.specs.Tree.{MessageTree}
use Rattle.llrp_listing.specs.Encoding.{AreSpelled}
use Rattle.llrp_listing.specs.MessageListing.{IsListingOf}
use Rattle.llrp_texts.proofs.texts.messages_of.Goals as goal

pub returns-in-Ok-clause-messages : goal.returns-in-Ok-clause-messages
returns-in-Ok-clause-messages c =
    let e = c.in_ok-octets.ensures.done in
    let s : AreSpelled c.args.set c.args.limit e.messages c.as_slice.result.now = subst (λ (x : List ℕ). AreSpelled c.args.set c.args.limit e.messages x) (sym c.as_slice.ensures.value) e.spelled in
    let same : c.in-Ok.messages.items ≡ e.messages = c.in-Ok.ensures.messages e.messages s in
    (subst (λ (ms : List MessageTree). IsListingOf ms c.args.text.now) (sym same) e.listing, (c.in_ok-octets.octets.items, subst (λ (ms : List MessageTree). AreSpelled c.args.set c.args.limit ms c.in_ok-octets.octets.items) (sym same) e.spelled))
