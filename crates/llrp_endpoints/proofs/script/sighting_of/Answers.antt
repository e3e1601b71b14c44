use Rattle.std.proofs.Common.{arith}
use Rattle.llrp_listing.proofs.SplitWords.{at_none}
use Rattle.llrp_endpoints.proofs.ScriptLines.{sighting_first, sighting_second, sighting_parts}
use Rattle.llrp_endpoints.proofs.script.sighting_of.Goals as goal

pub returns-in_err-antenna : goal.returns-in_err-antenna
returns-in_err-antenna c = at_none _ _ _ c.from_residual.ensures (λ s r h. sighting_first s c.args.text.now c.in_err-antenna.ensures h)

pub returns-in_err-rssi : goal.returns-in_err-rssi
returns-in_err-rssi c = at_none _ _ _ c.from_residual-in_err-rssi.ensures (λ s r h. sighting_second s c.args.text.now c.in_ok-antenna.antenna.now c.in_ok-antenna.rest.now c.in_ok-antenna.ensures c.in_err-rssi.ensures r h)

pub returns-in_err-antenna-2 : goal.returns-in_err-antenna-2
returns-in_err-antenna-2 c = at_none _ _ _ c.from_residual-in_err-antenna-2.ensures (λ s r h.
    let p = sighting_parts s c.args.text.now c.in_ok-antenna.antenna.now c.in_ok-antenna.rest.now c.in_ok-rssi.rssi.now c.in_ok-rssi.epc.now c.in_ok-antenna.ensures c.in_ok-rssi.ensures r h in
    let t = r.antenna in
    c.in_err-antenna-2.ensures s.antenna (omega (arith, t)) p.0)

pub returns-in_err-rssi-2 : goal.returns-in_err-rssi-2
returns-in_err-rssi-2 c = at_none _ _ _ c.from_residual-in_err-rssi-2.ensures (λ s r h.
    let p = sighting_parts s c.args.text.now c.in_ok-antenna.antenna.now c.in_ok-antenna.rest.now c.in_ok-rssi.rssi.now c.in_ok-rssi.epc.now c.in_ok-antenna.ensures c.in_ok-rssi.ensures r h in
    c.in_err-rssi-2.ensures s.rssi r.rssi p.1)

pub returns-in_err-epc : goal.returns-in_err-epc
returns-in_err-epc c = at_none _ _ _ c.from_residual-in_err-epc.ensures (λ s r h.
    let p = sighting_parts s c.args.text.now c.in_ok-antenna.antenna.now c.in_ok-antenna.rest.now c.in_ok-rssi.rssi.now c.in_ok-rssi.epc.now c.in_ok-antenna.ensures c.in_ok-rssi.ensures r h in
    c.in_err-epc.ensures s.epc r.epc p.2)
