use Rattle.std.proofs.Common.{inl, inr}
use Rattle.std.proofs.lemmas.Bool.{cases_lt}
use Rattle.llrp_json.proofs.OpenJsonLemmas.{parameter_awaits, first_awaits}
use Rattle.llrp_json.proofs.printer.JsonPrinter.open_parameter.Goals as goal

pub returns : goal.returns
returns c = λ was t h stop holds kind.
    elim (cases_lt 0 c.args.self.now.depth) [
      | inl deep ↦ parameter_awaits _ _ stop _ _ _ _ _ was h c.args.kind t holds deep kind (c.in_ok-push_separator_below.ensures.some deep) c.in_ok-push_parameter.ensures
      | inr shallow ↦ first_awaits _ _ stop _ _ _ _ _ was h c.args.kind t holds shallow kind (c.in_ok-push_separator_below.ensures.none) c.in_ok-push_parameter.ensures
    ]
