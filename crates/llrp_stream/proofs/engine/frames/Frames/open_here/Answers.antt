use Rattle.std.proofs.Common.{◌≡◌, ℕ, Bool, true, false, List, [], Ok, refl, sym, ap, subst, arith}
use Rattle.std.proofs.lemmas.List.{append-nil}
use Rattle.std.proofs.lemmas.Result.{err_from_is_err_and}
use Rattle.llrp_stream.specs.Cuts.{IsFrame}
use Rattle.llrp_schema.specs.declared.kinds.KindSet.{KindSet}
use Rattle.llrp_stream.specs.Calls.Frames.{GivesIn, Refuses}
use Rattle.llrp_stream.specs.declared.engine.frames.Outcome.TheVariants.{Whole}
use Rattle.llrp_stream.proofs.FramesLemmas.{bare_frame, passed_first}
use Rattle.llrp_stream.proofs.engine.frames.Frames.open_here.Goals as goal

pub returns-then-received-clause-takes : goal.returns-then-received-clause-takes
returns-then-received-clause-takes g c = λ was st.
    let front : List ℕ = c.args._front.now in
    let yes : c.in_ok-received.received ≡ true = cc (c.if-received.true) in
    let is = ap (λ (x : Bool). Ok x) yes in
    let t = c.in_ok-received.ensures.gives is was front c.args.self.now.limit st c.requires.whole (λ later. c.requires.sound.says later) c.requires.sound.octets c.requires.most in
    let same = sym (append-nil front) in
    (omega arith, subst IsFrame same (bare_frame c.args.self.now.limit front c.args.header c.requires.whole c.requires.sound (c.in_ok-received.ensures.ends is)), subst (λ (x : List ℕ). GivesIn c.args.self.now.body.reader.set (g.L.Listener.stands c.receive_bare.new.listener was) (g.L.Listener.ends c.receive_bare.new.listener was) (λ now. g.L.Listener.stands c.receive_bare.new.listener now []) c.args.self.now.limit x Whole) same t, (refl, c.requires.fresh))

pub start-requires-clause-told : goal.start-requires-clause-told
start-requires-clause-told g c =
    let w = c.requires.told in
    let no : c.in_ok-received.received ≡ false = cc (c.if-received.false) in
    (w.0, subst (λ l. g.L.Listener.stands l w.0 []) (sym (c.in_ok-received.ensures.none (ap (λ (x : Bool). Ok x) no))) w.1)

pub go_on-requires-clause-some : goal.go_on-requires-clause-some
go_on-requires-clause-some g c =
    let w = c.requires.told in
    let no : c.in_ok-received.received ≡ false = cc (c.if-received.false) in
    let told = subst (λ l. g.L.Listener.stands l w.0 []) (sym (c.in_ok-received.ensures.none (ap (λ (x : Bool). Ok x) no))) w.1 in
    let front = c.args._front.now in
    let s = c.in_ok-start.ensures.stands w.0 front c.args.self.now.limit told c.requires.whole (λ later. c.requires.sound.says later) c.requires.most in
    (w.0, front, record { passed = passed_first c.args.self.now.body.reader.set c.args.self.now.limit front c.args.header c.start.new.body c.requires.whole c.requires.sound c.requires.sound.octets s.1 s.2; stands_for = s.0 })

pub returns-in_err-received-clause-takes : goal.returns-in_err-received-clause-takes
returns-in_err-received-clause-takes g c = λ was st.
    let p = err_from_is_err_and c.from_residual.result c.from_residual.ensures.1 in
    rw (p.1, p.2) tt

pub returns-in_err-start-clause-takes : goal.returns-in_err-start-clause-takes
returns-in_err-start-clause-takes g c = λ was st.
    let p = err_from_is_err_and c.from_residual-in_err-start.result c.from_residual-in_err-start.ensures.1 in
    rw (p.1, p.2) tt

pub returns-clause-takes : goal.returns-clause-takes
returns-clause-takes g c = λ was st.
    let no : c.in_ok-received.received ≡ false = cc (c.if-received.false) in
    let told = subst (λ l. g.L.Listener.stands l was []) (sym (c.in_ok-received.ensures.none (ap (λ (x : Bool). Ok x) no))) st in
    let front = c.args._front.now in
    let s = c.in_ok-start.ensures.stands was front c.args.self.now.limit told c.requires.whole (λ later. c.requires.sound.says later) c.requires.most in
    c.go_on.ensures.takes was front (record { passed = passed_first c.args.self.now.body.reader.set c.args.self.now.limit front c.args.header c.start.new.body c.requires.whole c.requires.sound c.requires.sound.octets s.1 s.2; stands_for = s.0 })

pub returns-clause-refuses : goal.returns-clause-refuses
returns-clause-refuses g c = λ was st.
    let no : c.in_ok-received.received ≡ false = cc (c.if-received.false) in
    let told = subst (λ l. g.L.Listener.stands l was []) (sym (c.in_ok-received.ensures.none (ap (λ (x : Bool). Ok x) no))) st in
    let front = c.args._front.now in
    let s = c.in_ok-start.ensures.stands was front c.args.self.now.limit told c.requires.whole (λ later. c.requires.sound.says later) c.requires.most in
    subst (λ (q : KindSet). Refuses (g.L.Listener.faulty c.go_on.new.listener was) q c.args.self.now.limit front c.args.piece.now c.go_on.new.self c.go_on.result) s.2
    (c.go_on.ensures.refuses was front (record { passed = passed_first c.args.self.now.body.reader.set c.args.self.now.limit front c.args.header c.start.new.body c.requires.whole c.requires.sound c.requires.sound.octets s.1 s.2; stands_for = s.0 }))
