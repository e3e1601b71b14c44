use Rattle.std.proofs.Common.{◌≡◌, ℕ, List, ◌++◌, ap, subst, ◌∙◌, codes, decimal}
use Rattle.llrp_listing.specs.Calls.Copying.{Writes}
use Rattle.llrp_commands.proofs.encode_json.write_number.Goals as goal

pub returns : goal.returns
returns g c =
    let number : c.as_bytes-number.result.now ≡ decimal c.args.number = c.as_bytes-number.ensures.value ∙ c.format.ensures.text in
    subst (λ (text : List ℕ). Writes text (g.E.Sink.log c.args.e.now) (g.E.Sink.log c.write_parts.new.w) c.write_parts.result)
    (ap (λ (n : List ℕ). codes "llrp: line " ++ (n ++ codes ": ")) number) c.write_parts.ensures
