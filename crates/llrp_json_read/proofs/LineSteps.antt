-- What the value of a line shows of the line.
use Rattle.std.proofs.Common.{◌≡◌, ℕ, inr, List, Some}
use Rattle.std.specs.Prelude.{Result, Ok, Err, MatchResult}
use Rattle.std.specs.Str.{IsUtf8}
use Rattle.json.specs.Json.{Json, document}
use Rattle.llrp_schema.specs.declared.kinds.KindSet.{KindSet}
use Rattle.llrp_tree.specs.Tree.{MessageTree}
use Rattle.llrp_json_read.specs.declared.refusal.ReadErr.{ReadErr}
use Rattle.llrp_json_read.specs.Calls.ReadErrors.{IsReadErr}
use Rattle.llrp_json_read.specs.JsonLine.{RefusesLine, SaysLine}
use Rattle.llrp_json_read.specs.ObjectSays.{SaysMessage}
use Rattle.llrp_json_read.specs.ObjectRefused.{RefusesMessage}
use Rattle.llrp_json_read.proofs.Parameters.{as_error}

pub line_said : (p : KindSet) (line : List ℕ) (j : Json) (result : Result MessageTree ReadErr) → IsUtf8 line → document line ≡ Some j → MatchResult result (SaysMessage p j) (IsReadErr (RefusesMessage p j)) → MatchResult result (SaysLine p line) (IsReadErr (RefusesLine p line))
line_said p line j (Ok m) text is h = (j, text, is, h)
line_said p line j (Err e) text is h = as_error (RefusesMessage p j) (RefusesLine p line) e (λ r bad. inr (j, text, is, bad)) h
