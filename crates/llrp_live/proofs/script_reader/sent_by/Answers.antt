use Rattle.std.proofs.Common.{◌≡◌, refl, subst, Bool, true, rules}
use Rattle.llrp_live.specs.Calls.Lines.{IsBelowBy}
use Rattle.llrp_live.proofs.script_reader.sent_by.Goals as goal

pub returns : goal.returns
returns c =
    let own = c.in_ok-from_array.field-0.items in
    let yes : true ≡ c.args.sends = search rules in
    let one : IsBelowBy true c.args.number own c.args.below.now = (_, c.in_ok-from_array.ensures.items, refl, c.in-Ok.ensures.messages) in
    subst (λ (b : Bool). IsBelowBy b c.args.number own c.args.below.now) yes one
