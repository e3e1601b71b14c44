use Rattle.std.proofs.Common.{◌≡◌, drop}
use Rattle.std.specs.Str.{all_ascii_digits}
use Rattle.llrp_capture.proofs.segment.is_digits.Given as goal

-- all are digits if those that are left are
abbrev pub invariant-loop-octet : goal.invariant-loop-octet
invariant-loop-octet l = all_ascii_digits (drop l.octet-index l.fn.text) ≡ all_ascii_digits l.fn.text
