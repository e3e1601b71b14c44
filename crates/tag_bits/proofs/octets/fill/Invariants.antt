use Rattle.std.proofs.Common.{◌≡◌, length, ◌*◌, ◌-◌, ◌/◌, ◌^◌, drop}
use Rattle.tag_bits.specs.Digits.{digits, digits_of_bytes}
use Rattle.tag_bits.proofs.octets.fill.Given as goal

abbrev pub invariant-loop-i : goal.invariant-loop-i
invariant-loop-i l = record {
  written : digits_of_bytes (drop l.i l.octets) ≡ drop (8 * l.i) (digits (8 * length l.octets) l.number);
  left : l.rest ≡ l.number / 2 ^ (8 * (length l.octets - l.i));
}
