use Rattle.std.proofs.Common.{◌∙◌}
use Rattle.std.proofs.lemmas.Result.{on_ok_weaker}
use Rattle.llrp_schema.specs.Calls.Schema.{field_rule}
use Rattle.llrp_listing.proofs.OpenListingLemmas.{grown_drop, grown_take, grown_long, field_of, reserved_of}
use Rattle.llrp_listing.proofs.printing.printer.PrinterListener.field.Goals as goal

pub returns-then-rule : goal.returns-then-rule
returns-then-rule c = λ was t o nx. (o.0, o.1, reserved_of t (field_rule c.args.rule.now) c.args.value _ o.2 nx c.if-rule.true)

pub returns : goal.returns
returns c = on_ok_weaker c.push_field.result
    (λ w was t o nx. (grown_long c.args.self.now.mark _ _ _ o.0 w.2, grown_take c.args.self.now.mark _ _ _ o.0 w.2 ∙ o.1, field_of t (field_rule c.args.rule.now) c.args.value w.0 _ _ o.2 nx c.if-rule.false w.1 (grown_drop c.args.self.now.mark _ _ _ o.0 w.2)))
    c.push_field.ensures
