use Rattle.std.proofs.Common.{Ok, Err, false, true, refl, arith}
use Rattle.std.proofs.lemmas.Bool.Decides.{nat_tests}
use Rattle.std.proofs.lemmas.Result.{err_from_is_err_and}
use Rattle.llrp_endpoints.proofs.ServingPieces.{so_far_none, so_far_more, taken_behind, all_taken, failed, went_on, took_closing, took_in_part, gave, gave_none, at_answer}
use Rattle.llrp_endpoints.proofs.serving.Serving.take_all.Goals as goal

pub loop-rest-init : goal.loop-rest-init
loop-rest-init c = λ reader entries bytes messages h. so_far_none reader entries bytes messages c.args.piece.now c.args.out.now.items c.args.self.now h

pub loop-rest-preserved : goal.loop-rest-preserved
loop-rest-preserved c = λ reader entries bytes messages h.
    so_far_more reader entries bytes messages c.loop-rest.self (record { reader = c.take.new.self; decoder = c.feed.new.self; phase = c.loop-rest.self.phase }) c.feed.new.self c.args.piece.now c.loop-rest.rest.now c.split_at.result.1.now
    c.args.out.now.items c.loop-rest.out.items c.take.new.out.items c.in-Ok.fed.used c.in-Some.item (c.loop-rest.invariant reader entries bytes messages h)
    (gave c.loop-rest.self.decoder c.feed.new.self c.loop-rest.rest.now c.in-Ok.fed c.in-Some.item c.in-Ok.ensures.limit c.in-Ok.ensures.stands c.in-Some.is)
    (at_answer c.loop-rest.self.reader c.in-Some.item c.take.new.self c.loop-rest.out.items c.take.new.out.items c.in_ok-take.field-0 false c.if-branch.false c.in_ok-take.ensures) refl c.split_at.ensures.back

pub returns-in-Err : goal.returns-in-Err
returns-in-Err c = λ reader entries bytes messages h.
    let f = c.loop-rest.invariant reader entries bytes messages h in
    taken_behind reader entries bytes messages c.args.piece.now c.loop-rest.rest.now _ _ _ c.loop-rest.self c.loop-rest.self (Err c.error_of.result) f
    (failed reader entries _ _ c.loop-rest.self c.loop-rest.self c.feed.new.self c.loop-rest.rest.now _ c.in-Err.error _ f.stands c.in-Err.ensures.stands c.error_of.ensures)

pub returns-in_default : goal.returns-in_default
returns-in_default c = λ reader entries bytes messages h.
    let f = c.loop-rest.invariant reader entries bytes messages h in
    taken_behind reader entries bytes messages c.args.piece.now c.loop-rest.rest.now _ _ _ c.loop-rest.self (record { reader = c.loop-rest.self.reader; decoder = c.feed.new.self; phase = c.loop-rest.self.phase }) (Ok false) f
    (went_on reader entries _ _ c.loop-rest.self (record { reader = c.loop-rest.self.reader; decoder = c.feed.new.self; phase = c.loop-rest.self.phase }) c.loop-rest.rest.now _ c.in-Ok.fed.used f.stands
    (gave_none c.loop-rest.self.decoder c.feed.new.self c.loop-rest.rest.now c.in-Ok.fed c.in-Ok.ensures.stands c.in_default.is) c.in-Ok.ensures.limit refl)

pub returns-in_err-take : goal.returns-in_err-take
returns-in_err-take c = λ reader entries bytes messages h.
    let f = c.loop-rest.invariant reader entries bytes messages h in
    let p = err_from_is_err_and c.from_residual.result c.from_residual.ensures.1 in
    rw (p.1, p.2) (taken_behind reader entries bytes messages c.args.piece.now c.loop-rest.rest.now _ _ _ c.loop-rest.self (record { reader = c.take.new.self; decoder = c.feed.new.self; phase = c.loop-rest.self.phase }) (Err c.in_err-take.field-0.0) f
    (took_in_part reader entries _ _ c.loop-rest.self (record { reader = c.take.new.self; decoder = c.feed.new.self; phase = c.loop-rest.self.phase }) c.feed.new.self c.loop-rest.rest.now _ _ c.in-Ok.fed.used c.in-Some.item c.in_err-take.field-0.0 f.stands
    (gave c.loop-rest.self.decoder c.feed.new.self c.loop-rest.rest.now c.in-Ok.fed c.in-Some.item c.in-Ok.ensures.limit c.in-Ok.ensures.stands c.in-Some.is) c.in_err-take.ensures))

pub returns-then-branch : goal.returns-then-branch
returns-then-branch c = λ reader entries bytes messages h.
    let f = c.loop-rest.invariant reader entries bytes messages h in
    taken_behind reader entries bytes messages c.args.piece.now c.loop-rest.rest.now _ _ _ c.loop-rest.self (record { reader = c.take.new.self; decoder = c.feed.new.self; phase = c.loop-rest.self.phase }) (Ok true) f
    (took_closing reader entries _ _ c.loop-rest.self (record { reader = c.take.new.self; decoder = c.feed.new.self; phase = c.loop-rest.self.phase }) c.feed.new.self c.loop-rest.rest.now _ _ c.in-Ok.fed.used c.in-Some.item f.stands
    (gave c.loop-rest.self.decoder c.feed.new.self c.loop-rest.rest.now c.in-Ok.fed c.in-Some.item c.in-Ok.ensures.limit c.in-Ok.ensures.stands c.in-Some.is)
    (at_answer c.loop-rest.self.reader c.in-Some.item c.take.new.self c.loop-rest.out.items c.take.new.out.items c.in_ok-take.field-0 true c.if-branch.true c.in_ok-take.ensures))

pub returns : goal.returns
returns c = λ reader entries bytes messages h. all_taken reader entries bytes messages c.args.piece.now c.loop-rest.rest.now _ _ _ (c.loop-rest.invariant reader entries bytes messages h) (grind (arith, nat_tests))
