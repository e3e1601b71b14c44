use Rattle.std.proofs.Common.{arith}
use Rattle.llrp_listing.proofs.TableLemmas.{epc_fits, rssi_fits, other_fits, epc_text, neither, rssi_text, other_text}
use Rattle.llrp_listing.proofs.printing.lines.put_value.Goals as goal

pub put_epc-requires-clause-fits : goal.put_epc-requires-clause-fits
put_epc-requires-clause-fits c = epc_fits c.args.kind c.args.value c.in-Epc96.is c.requires.fits

pub overflow_cast-value : goal.overflow_cast-value
overflow_cast-value c = omega (arith, rssi_fits c.args.kind c.args.value c.in-PeakRssi.is c.requires.fits)

pub overflow_cast-value-in_default : goal.overflow_cast-value-in_default
overflow_cast-value-in_default c = omega (arith, other_fits c.args.kind c.args.value c.requires.tv (neither c.in_default.not-Epc96 c.in_default.not-WholeEpc96) (neither c.in_default.not-PeakRssi c.in_default.not-WholePeakRssi) c.requires.fits)

pub returns-in-Epc96-clause-text : goal.returns-in-Epc96-clause-text
returns-in-Epc96-clause-text c =
    let t = c.put_epc.ensures.text in
    (t.0, epc_text c.args.kind c.args.value t.0 c.in-Epc96.is t.1, t.2)

pub returns-in-PeakRssi-clause-text : goal.returns-in-PeakRssi-clause-text
returns-in-PeakRssi-clause-text c = (_, rssi_text c.args.kind c.args.value c.in-PeakRssi.is, c.put_signed.ensures.text)

pub returns-in_default : goal.returns-in_default
returns-in_default c = record {
  text = (_, other_text c.args.kind c.args.value c.requires.tv (neither c.in_default.not-Epc96 c.in_default.not-WholeEpc96) (neither c.in_default.not-PeakRssi c.in_default.not-WholePeakRssi), c.put_decimal.ensures.text);
  most = omega (arith, c.put_decimal.ensures.most);
}
