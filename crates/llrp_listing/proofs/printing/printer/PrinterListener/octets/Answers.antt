use Rattle.std.proofs.Common.{◌∙◌}
use Rattle.std.proofs.lemmas.Result.{on_ok_weaker}
use Rattle.llrp_tree.proofs.OctetLemmas.{are_octets}
use Rattle.llrp_listing.proofs.OpenListingLemmas.{octets_begin}
use Rattle.llrp_listing.proofs.printing.printer.PrinterListener.octets.Goals as goal

pub returns : goal.returns
returns c = on_ok_weaker c.push_octets.result
    (λ m was t o nx.
    let r = octets_begin c.args.self.now.mark t c.args.form c.args.octets.now c.args.self.now.text _ o.0 o.2 nx (are_octets c.args.octets.now c.type_inv.octets) c.requires m in
    (r.0, r.1 ∙ o.1, r.2))
    c.push_octets.ensures
