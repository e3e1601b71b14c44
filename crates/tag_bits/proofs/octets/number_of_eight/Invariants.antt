use Rattle.std.proofs.Common.{◌≡◌, take}
use Rattle.tag_bits.specs.Digits.{value, digits_of_bytes}
use Rattle.tag_bits.proofs.octets.number_of_eight.Given as goal

abbrev pub invariant-loop-octet : goal.invariant-loop-octet
invariant-loop-octet l = l.number ≡ value (digits_of_bytes (take l.octet-index l.octets))
