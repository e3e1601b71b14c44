use Rattle.std.proofs.Common.{subst, ◌∷◌}
use Rattle.llrp_stream.specs.Calls.Reading.{Told}
use Rattle.llrp_stream.specs.declared.engine.body_reader.Stage.{Stage}
use Rattle.llrp_stream.proofs.Bounds.{stop_small, before_stop}
use Rattle.llrp_stream.proofs.engine.body_reader.BodyReader.step.Goals as goal

pub leading-requires-clause-stop : goal.leading-requires-clause-stop
leading-requires-clause-stop g c = let a = c.requires.2 in stop_small c.args.self.now c.requires.1 a.node a.outer a.reads

pub leading-requires-clause-bit : goal.leading-requires-clause-bit
leading-requires-clause-bit g c = c.requires.2.reads.bit_small

pub leading-requires-clause-before : goal.leading-requires-clause-before
leading-requires-clause-before g c = let a = c.requires.2 in before_stop c.args.self.now c.requires.1 a.node a.outer c.in-Leading.next a.reads c.in-Leading.is

pub leading-requires-clause-reads : goal.leading-requires-clause-reads
leading-requires-clause-reads g c =
    let a = c.requires.2 in
    (c.requires.1, a.node, a.outer, a.reads, c.requires.0, subst (λ (x : Stage). Told (g.L.Listener.begins c.args.listener.now c.requires.0) (g.L.Listener.stands c.args.listener.now c.requires.0) x (a.node ∷ a.outer)) c.in-Leading.is a.told, c.requires.3)

pub tail-requires-clause-some : goal.tail-requires-clause-some
tail-requires-clause-some g c = let a = c.requires.2 in (c.requires.1, a.node, a.outer, a.reads)

pub child_or_end-requires-clause-stop : goal.child_or_end-requires-clause-stop
child_or_end-requires-clause-stop g c = let a = c.requires.2 in stop_small c.args.self.now c.requires.1 a.node a.outer a.reads

pub child_or_end-requires-clause-some : goal.child_or_end-requires-clause-some
child_or_end-requires-clause-some g c =
    let a = c.requires.2 in
    (c.requires.1, a.node, a.outer, a.reads, c.requires.0, subst (λ (x : Stage). Told (g.L.Listener.begins c.args.listener.now c.requires.0) (g.L.Listener.stands c.args.listener.now c.requires.0) x (a.node ∷ a.outer)) c.in-Children.is a.told, c.requires.3)

pub returns-in-Leading : goal.returns-in-Leading
returns-in-Leading g c = λ was front are d.
    c.leading.ensures was front are.node are.outer are.reads (subst (λ (x : Stage). Told (g.L.Listener.begins c.args.listener.now was) (g.L.Listener.stands c.args.listener.now was) x (are.node ∷ are.outer)) c.in-Leading.is are.told) d

pub returns-in-Tail : goal.returns-in-Tail
returns-in-Tail g c = λ was front are d.
    c.tail.ensures was front are.node are.outer are.reads (subst (λ (x : Stage). Told (g.L.Listener.begins c.args.listener.now was) (g.L.Listener.stands c.args.listener.now was) x (are.node ∷ are.outer)) c.in-Tail.is are.told) d

pub returns-in-Children : goal.returns-in-Children
returns-in-Children g c = λ was front are d.
    c.child_or_end.ensures was front are.node are.outer are.reads (subst (λ (x : Stage). Told (g.L.Listener.begins c.args.listener.now was) (g.L.Listener.stands c.args.listener.now was) x (are.node ∷ are.outer)) c.in-Children.is are.told) d
