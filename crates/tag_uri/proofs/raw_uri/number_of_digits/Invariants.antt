use Rattle.std.proofs.Common.{◌≡◌, ◌^◌, ◌<◌, take}
use Rattle.tag_uri.specs.Hexadecimal.{hexadecimal}
use Rattle.tag_uri.proofs.raw_uri.number_of_digits.Given as goal

abbrev pub invariant-loop-octet : goal.invariant-loop-octet
invariant-loop-octet l = record { below : l.number < 16 ^ l.octet-index; digits : take l.octet-index l.octets ≡ hexadecimal l.octet-index l.number }
