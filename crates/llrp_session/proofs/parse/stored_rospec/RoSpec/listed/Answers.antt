use Rattle.std.proofs.Common.{◌∙◌, ap, sym, subst}
use Rattle.llrp_tree.specs.Lawful.{IsLawfulTree}
use Rattle.llrp_session.specs.RoSpec.{RoSpec, rospec_of}
use Rattle.llrp_session.proofs.ListedParts.{same_listed, never_refused}
use Rattle.llrp_session.proofs.parse.stored_rospec.RoSpec.listed.Goals as goal

pub field-priority-requires : goal.field-priority-requires
unfolding rospec_of
field-priority-requires c = (c.self.invariant.0, subst (λ (s : RoSpec). IsLawfulTree s.tree) (sym c.self.view_is) c.told.ensures.lawful)

pub unreachable-requires : goal.unreachable-requires
unreachable-requires c =
    never_refused c.self.inside.spec c.args.self.now c.args.state c.self.inside.settings.id c.field-priority.result c.state_number.result c.new-tail.result c.new-2.result _ c.told.ensures c.self.view_is
    (ap (λ s. s.id) c.self.invariant.1) c.field-priority.ensures.value c.state_number.ensures.number (c.new-tail.ensures ∙ c.new.ensures.items) (c.new-2.ensures ∙ c.in_ok-children.ensures ∙ c.children.ensures)
    c.in-Err.ensures.fault

pub returns : goal.returns
returns c = record {
  listed = c.in-Ok.ensures.value
      ∙ same_listed c.self.inside.spec c.args.self.now c.args.state c.self.inside.settings.id c.field-priority.result c.state_number.result c.new-tail.result c.new-2.result c.self.view_is
      (ap (λ s. s.id) c.self.invariant.1) c.field-priority.ensures.value c.state_number.ensures.number (c.new-tail.ensures ∙ c.new.ensures.items) (c.new-2.ensures ∙ c.in_ok-children.ensures ∙ c.children.ensures);
}
