use Rattle.std.proofs.Common.{◌≡◌, Some, refl, rules}
use Rattle.llrp_stream.specs.declared.item.Item.TheVariants.{Bad, Msg}
use Rattle.llrp_sides.proofs.StretchSteps.{passes_fault, passes_message, passes_on}
use Rattle.llrp_sides.proofs.stretch.Stretch.read_past.Goals as goal

pub returns-in-None-clause-passes : goal.returns-in-None-clause-passes
returns-in-None-clause-passes c = passes_on c.args.stamp c.args.decoder c.feed.new.self c.args.octets.now c.in-Ok.fed c.args.self.now _ c.args.text.now c.args.text.now c.in-None.is c.in-Ok.ensures.limit c.in-Ok.ensures.stands_in refl refl

pub returns-in-Some-Bad-clause-passes : goal.returns-in-Some-Bad-clause-passes
returns-in-Some-Bad-clause-passes c =
    let item : c.in-Ok.fed.item ≡ Some (Bad c.in-Some-Bad.id c.in-Some-Bad.fault) = search rules in
    passes_fault c.args.stamp c.args.decoder c.feed.new.self c.args.octets.now c.in-Ok.fed c.in-Some-Bad.id c.in-Some-Bad.fault c.args.self.now _ c.args.text.now _ item c.in-Ok.ensures.stands_in c.in_ok-list_fault-in-Some-Bad.ensures

pub returns-in-Ok-clause-passes : goal.returns-in-Ok-clause-passes
returns-in-Ok-clause-passes c =
    let item : c.in-Ok.fed.item ≡ Some (Msg c.in-Some-Msg.field-0-0) = search rules in
    passes_message c.args.stamp c.args.decoder c.feed.new.self c.args.octets.now c.in-Ok.fed c.in-Some-Msg.field-0-0 c.args.self.now _ c.args.text.now c.args.text.now item c.in-Ok.ensures.stands_in
