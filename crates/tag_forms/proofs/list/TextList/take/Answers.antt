use Rattle.std.proofs.Common.{arith}
use Rattle.tag_forms.proofs.ListLemmas.{step, same_list, all_taken}
use Rattle.tag_forms.proofs.list.TextList.take.Goals as goal

pub loop-octet-preserved : goal.loop-octet-preserved
loop-octet-preserved c =
    let old = c.args.self.now in
    let l = c.loop-octet in
    record {
      ready = c.in_ok-take_octet.ensures.ready;
      same = same_list old l.self c.take_octet.new.self l.invariant.same c.in_ok-take_octet.ensures.same;
      so_far = step old l.self c.take_octet.new.self c.args.answers.now.items l.answers.items c.take_octet.new.answers.items c.args.piece.now l.octet-index c.loop-octet-test.true l.invariant.same l.invariant.so_far c.in_ok-take_octet.ensures.took;
    }

pub returns-clause-answers : goal.returns-clause-answers
returns-clause-answers c =
    all_taken c.args.self.now c.loop-octet.self c.args.answers.now.items c.loop-octet.answers.items c.args.piece.now c.loop-octet.octet-index (omega (arith, c.loop-octet-test.false)) c.loop-octet.invariant.so_far
