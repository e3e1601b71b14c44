use Rattle.std.proofs.Common.{subst}
use Rattle.std.proofs.lemmas.Result.{err_from_is_err_and}
use Rattle.llrp_schema.specs.declared.kinds.KindSet.{KindSet}
use Rattle.llrp_stream.specs.Calls.Frames.{Refuses}
use Rattle.llrp_stream.proofs.FramesLemmas.{passed_first}
use Rattle.llrp_stream.proofs.engine.frames.Frames.open.Goals as goal

pub go_on-requires-clause-some : goal.go_on-requires-clause-some
go_on-requires-clause-some g c =
    let w = c.requires.told in
    let front = c.args.self.now.body.raw.items in
    let s = c.in_ok-start.ensures.stands w.0 front c.args.self.now.limit w.1 c.requires.whole (λ later. c.requires.sound.says later) c.requires.most in
    (w.0, front, record { passed = passed_first c.args.self.now.body.reader.set c.args.self.now.limit front c.args.header c.start.new.body c.requires.whole c.requires.sound c.requires.sound.octets s.1 s.2; stands_for = s.0 })

pub returns-in_err-start-clause-takes : goal.returns-in_err-start-clause-takes
returns-in_err-start-clause-takes g c = λ was st.
    let p = err_from_is_err_and c.from_residual.result c.from_residual.ensures.1 in
    rw (p.1, p.2) tt

pub returns-clause-takes : goal.returns-clause-takes
returns-clause-takes g c = λ was st.
    let front = c.args.self.now.body.raw.items in
    let s = c.in_ok-start.ensures.stands was front c.args.self.now.limit st c.requires.whole (λ later. c.requires.sound.says later) c.requires.most in
    c.go_on.ensures.takes was front (record { passed = passed_first c.args.self.now.body.reader.set c.args.self.now.limit front c.args.header c.start.new.body c.requires.whole c.requires.sound c.requires.sound.octets s.1 s.2; stands_for = s.0 })

pub returns-clause-refuses : goal.returns-clause-refuses
returns-clause-refuses g c = λ was st.
    let front = c.args.self.now.body.raw.items in
    let s = c.in_ok-start.ensures.stands was front c.args.self.now.limit st c.requires.whole (λ later. c.requires.sound.says later) c.requires.most in
    subst (λ (q : KindSet). Refuses (g.L.Listener.faulty c.go_on.new.listener was) q c.args.self.now.limit front c.args.piece.now c.go_on.new.self c.go_on.result) s.2
    (c.go_on.ensures.refuses was front (record { passed = passed_first c.args.self.now.body.reader.set c.args.self.now.limit front c.args.header c.start.new.body c.requires.whole c.requires.sound c.requires.sound.octets s.1 s.2; stands_for = s.0 }))
