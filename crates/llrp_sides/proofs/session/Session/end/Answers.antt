use Rattle.std.proofs.Common.{◌≡◌, ◌≤◌, ◌∙◌, arith, length, rules, List, ℕ, subst, ap}
use Rattle.std.specs.String.{string_bytes}
use Rattle.llrp_sides.specs.Calls.Captures.{EndAll}
use Rattle.llrp_sides.proofs.SessionLemmas.{ends_next, ends_size, none_left}
use Rattle.llrp_sides.proofs.session.Session.end.Goals as goal

pub pairs-preserved : goal.pairs-preserved
pairs-preserved c = record {
  size = ends_size c.as_str.result.now c.pairs.place c.pairs.self c.end_pair.new.self c.pairs.text c.end_pair.new.text c.in_ok-end_pair.ensures ∙ c.pairs.invariant.size;
  rest = λ lawful text all. c.pairs.invariant.rest lawful text
      (ends_next (string_bytes c.replace-time.result) c.as_str.result.now c.pairs.place _ c.pairs.self c.end_pair.new.self c.pairs.text c.end_pair.new.text text lawful c.as_str.ensures.value (omega arith) c.in_ok-end_pair.ensures all);
}

pub returns : goal.returns
returns c =
    let all : length c.pairs.self.pairs.items ≤ c.pairs.place = grind (arith, c.pairs.invariant.size, c.pairs-test.false) in
    let same : c.replace-time.result ≡ c.args.self.now.time = search rules in
    let rest = c.pairs.invariant.rest c.pairs.self.is_lawful c.pairs.text (none_left (string_bytes c.replace-time.result) c.pairs.place c.pairs.self.pairs.items c.pairs.self.is_lawful c.pairs.text all) in
    (c.pairs.self.is_lawful, subst (λ (x : List ℕ). EndAll x c.args.self.now.pairs.items c.args.self.now.is_lawful c.pairs.self.is_lawful c.args.text.now c.pairs.text) (ap string_bytes same) rest, c.verdict_on.ensures)
