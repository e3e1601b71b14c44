use Rattle.std.proofs.Common.{◌≡◌, ◌^◌, ◌<◌, ◌≤◌, ◌++◌, drop}
use Rattle.tag_uri.specs.Hexadecimal.{hexadecimal}
use Rattle.tag_forms.specs.Hexadecimal.{kept_digits}
use Rattle.tag_forms.proofs.hexadecimal.number_of_digits.Given as goal

abbrev pub invariant-loop-octet : goal.invariant-loop-octet
invariant-loop-octet l = record {
  few : l.count ≤ 24;
  below : l.number < 16 ^ l.count;
  read : kept_digits l.octets ≡ hexadecimal l.count l.number ++ kept_digits (drop l.octet-index l.octets);
}
