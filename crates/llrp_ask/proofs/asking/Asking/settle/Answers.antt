use Rattle.std.proofs.Common.{◌≡◌, sym, ap, subst, ◌∙◌}
use Rattle.std.specs.Prelude.{OnOk}
use Rattle.llrp_ask.specs.Calls.Asking.{Course, refused_by, settled, take_next}
use Rattle.llrp_ask.specs.Calls.Courses.{course_of}
use Rattle.llrp_ask.proofs.CourseLemmas.{not_granted}
use Rattle.llrp_ask.proofs.asking.Asking.settle.Goals as goal

pub returns : goal.returns
returns c =
    let old = course_of c.args.self.now c.args.out.now.items in
    let eq : take_next (course_of c.refuse.new.self c.args.out.now.items) ≡ settled c.args.status old = ap take_next (c.refuse.ensures c.args.out.now.items) ∙ sym (not_granted c.args.status (take_next old) (take_next (refused_by c.args.status old)) c.if-status-eq0.false) in
    subst (λ (x : Course). OnOk c.take_next-2.result (course_of c.take_next-2.new.self c.take_next-2.new.out.items ≡ x)) eq c.take_next-2.ensures
