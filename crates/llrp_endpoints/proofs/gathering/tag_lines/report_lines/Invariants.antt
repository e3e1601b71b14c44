use Rattle.std.proofs.Common.{◌≡◌, ℕ, List, take}
use Rattle.std.specs.List.{AllZip, flat_map}
use Rattle.llrp_endpoints.specs.TagLines.{IsTagLine}
use Rattle.llrp_endpoints.proofs.gathering.tag_lines.report_lines.Given as goal

abbrev pub invariant-loop-tag : goal.invariant-loop-tag
invariant-loop-tag l = record {
  lines : List (List ℕ);
  each : AllZip (IsTagLine l.form) (take l.tag-index l.tags) lines;
  text_is : l.text ≡ flat_map (λ line. line) lines;
}
