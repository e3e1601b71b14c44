use Rattle.std.proofs.Common.{sym, subst}
use Rattle.llrp_schema.specs.Calls.Schema.{field_rule}
use Rattle.llrp_stream.specs.Building.{Building}
use Rattle.llrp_stream.specs.Private.Building.{HasOpen}
use Rattle.llrp_stream.proofs.BuildingLemmas.{has_room, plain_field, reserved_field}
use Rattle.llrp_stream.proofs.engine.builder.BuilderListener.field.Goals as goal

pub push_value-requires : goal.push_value-requires
push_value-requires c =
    let s = c.requires.some in
    let now : Building = record { version = c.self.inside.version; id = c.self.inside.id; nodes = c.self.inside.nodes; done = c.self.inside.done } in
    has_room now s.1 (field_rule c.args.rule.now) (subst (λ (b : Building). HasOpen b s.1) (sym c.self.view_is) s.2) s.3 c.if-not-rule.true

pub returns-then-not-rule : goal.returns-then-not-rule
returns-then-not-rule c = λ was t h x.
    let now : Building = record { version = c.self.inside.version; id = c.self.inside.id; nodes = c.self.inside.nodes; done = c.self.inside.done } in
    plain_field now t (field_rule c.args.rule.now) c.args.value c.push_value.new.self (subst (λ (b : Building). HasOpen b t) (sym c.self.view_is) h) x c.if-not-rule.true c.push_value.ensures

pub returns-else-not-rule : goal.returns-else-not-rule
returns-else-not-rule c = λ was t h x. reserved_field c.args.self.now t (field_rule c.args.rule.now) c.args.value h x c.if-not-rule.false
