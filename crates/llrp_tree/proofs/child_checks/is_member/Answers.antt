use Rattle.std.proofs.Common.{◌∙◌, true, false, sym}
use Rattle.llrp_tree.proofs.KindLemmas.{found_by_number, found_here, found_nowhere}
use Rattle.llrp_tree.proofs.child_checks.is_member.Goals as goal

pub loop-member-init : goal.loop-member-init
loop-member-init c = found_by_number c.args.group.now.members.now c.args.kind

pub returns-then-eq : goal.returns-then-eq
returns-then-eq c =
    sym (found_here c.args.group.now.members.now c.loop-member.member-index c.args.kind _ true c.loop-member-test.true (sym c.if-eq.true ∙ c.eq.ensures)) ∙ c.loop-member.invariant

pub loop-member-preserved : goal.loop-member-preserved
loop-member-preserved c =
    sym (found_here c.args.group.now.members.now c.loop-member.member-index c.args.kind _ false c.loop-member-test.true (sym c.if-eq.false ∙ c.eq.ensures)) ∙ c.loop-member.invariant

pub returns : goal.returns
returns c = sym (found_nowhere c.args.group.now.members.now c.loop-member.member-index c.args.kind c.loop-member-test.false) ∙ c.loop-member.invariant
