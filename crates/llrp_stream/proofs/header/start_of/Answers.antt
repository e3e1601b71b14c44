-- The id by its octets, and the checks as the header's reader makes them.
use Rattle.std.proofs.Common.{◌≡◌, Bool, List, [], Some, sym, subst, ◌∙◌, arith}
use Rattle.std.proofs.lemmas.List.{append-nil}
use Rattle.tag_bits.specs.Digits.{digits_of_bytes}
use Rattle.llrp_tree.specs.FirstFault.{first_failing, header_checks_in}
use Rattle.llrp_tree.proofs.OctetLemmas.{are_octets}
use Rattle.llrp_stream.specs.Cuts.{length_field}
use Rattle.llrp_stream.specs.Items.{id_field}
use Rattle.llrp_stream.specs.Calls.Items.{header_fault_in}
use Rattle.llrp_stream.proofs.HeaderLemmas.{four_octets}
use Rattle.llrp_tree.proofs.HeaderLemmas.{number_ahead}
use Rattle.llrp_stream.proofs.header.start_of.Goals as goal

pub returns-in-Ok : goal.returns-in-Ok
unfolding length_field
returns-in-Ok c =
    let front = c.in-Frame-2.ensures in
    let says = (c.in-Ok.ensures.header []).octets_is ∙ sym (number_ahead c.args.bytes.now [] 16 32 (omega (arith, front.six))) in
    record {
      long = c.if-bytes-lt-HEADER_OCTETS.false;
      least = omega (arith, says, front.octets_are, front.ten);
      says = λ later. c.in-Ok.ensures.header later;
      octets = are_octets c.args.bytes.now (λ i. c.type_inv.bytes i);
    }

pub returns-in-Err : goal.returns-in-Err
unfolding length_field id_field header_fault_in
returns-in-Err c = record {
  long = c.if-bytes-lt-HEADER_OCTETS.false;
  least = c.in-Frame.ensures.ten;
  octets_are = c.in-Frame.ensures.octets_are;
  id_is = four_octets c.args.bytes.now 6 c.read_u32.result (are_octets c.args.bytes.now (λ i. c.type_inv.bytes i)) c.if-bytes-lt-HEADER_OCTETS.false c.read_u32.ensures;
  fault_is = subst (λ (x : List Bool). first_failing (header_checks_in c.args.set c.args.limit x) ≡ Some (c.in-Err.fault.bit, c.in-Err.fault.reason)) (append-nil (digits_of_bytes c.args.bytes.now)) (c.in-Err.ensures.fault []);
}
