use Rattle.std.proofs.Common.{refl, sym, ap, Bool, ◌∙◌, arith}
use Rattle.std.proofs.lemmas.Bool.Decides.{nat_tests}
use Rattle.std.proofs.lemmas.Result.{err_from_is_err_and}
use Rattle.llrp_live.specs.declared.reader.LiveReader.{LiveReader}
use Rattle.llrp_live.specs.Private.Living.{count_more}
use Rattle.llrp_live.proofs.LiveLemmas.{so_far_none, failed, went_on, out_of_memory, closed, so_far_more, all_taken}
use Rattle.llrp_live.proofs.reader.LiveReader.take_all.Goals as goal

pub loop-rest-init : goal.loop-rest-init
loop-rest-init c = λ b before bytes items h. so_far_none c.args.now c.args.piece.now b before bytes items c.args.self.now c.args.out.now.items h

pub returns-in-Err : goal.returns-in-Err
returns-in-Err c = λ b before bytes items h.
    let new : LiveReader = record { alloc = c.loop-rest.self.alloc; core = c.loop-rest.self.core; decoder = c.feed.new.self; phase = c.loop-rest.self.phase; taken = c.loop-rest.self.taken; answers = c.loop-rest.self.answers; version = c.loop-rest.self.version } in
    failed c.args.now c.args.piece.now c.loop-rest.rest.now b before bytes items c.args.self.now c.loop-rest.self c.args.out.now.items c.loop-rest.out.items (c.loop-rest.invariant b before bytes items h)
    new c.feed.new.self c.in-Err.error c.error_of.result refl c.in-Err.ensures.stands_in c.error_of.ensures

pub returns-in_default : goal.returns-in_default
returns-in_default c = λ b before bytes items h.
    let new : LiveReader = record { alloc = c.loop-rest.self.alloc; core = c.loop-rest.self.core; decoder = c.feed.new.self; phase = c.loop-rest.self.phase; taken = c.loop-rest.self.taken; answers = c.loop-rest.self.answers; version = c.loop-rest.self.version } in
    went_on c.args.now c.args.piece.now c.loop-rest.rest.now b before bytes items c.args.self.now c.loop-rest.self c.args.out.now.items c.loop-rest.out.items (c.loop-rest.invariant b before bytes items h)
    c.in-Ok.fed new c.in-Ok.ensures.stands_in c.in_default.is c.in-Ok.ensures.limit refl refl refl refl refl

pub returns-in_err-taken : goal.returns-in_err-taken
returns-in_err-taken c = λ b before bytes items h.
    let p = err_from_is_err_and c.from_residual.result c.from_residual.ensures.1 in
    let new : LiveReader = record { alloc = c.loop-rest.self.alloc; core = c.take.new.core; decoder = c.feed.new.self; phase = c.loop-rest.self.phase; taken = c.loop-rest.self.taken; answers = c.loop-rest.self.answers; version = c.loop-rest.self.version } in
    rw (p.1, p.2) (out_of_memory c.args.now c.args.piece.now c.loop-rest.rest.now b before bytes items c.args.self.now c.loop-rest.self c.args.out.now.items c.loop-rest.out.items (c.loop-rest.invariant b before bytes items h)
    c.in-Ok.fed c.in-Some.item c.feed.new.self c.in-Ok.ensures.stands_in c.in-Some.is new c.take.new.out.items c.in_err-taken.ensures.core_unchanged c.in_err-taken.ensures.out_unchanged)

pub returns-then-closing : goal.returns-then-closing
returns-then-closing c = λ b before bytes items h.
    let new : LiveReader = record { alloc = c.loop-rest.self.alloc; core = c.take.new.core; decoder = c.feed.new.self; phase = c.loop-rest.self.phase; taken = c.count_more-self.result; answers = c.loop-rest.self.answers; version = c.in_ok-taken.taken.version } in
    closed c.args.now c.args.piece.now c.loop-rest.rest.now b before bytes items c.args.self.now c.loop-rest.self c.args.out.now.items c.loop-rest.out.items (c.loop-rest.invariant b before bytes items h)
    c.in-Ok.fed c.in-Some.item c.feed.new.self c.in-Ok.ensures.stands_in c.in-Some.is new c.take.new.out.items c.in_ok-taken.ensures.ok (sym c.closes-closing.ensures ∙ c.if-closing.true)

pub loop-rest-preserved : goal.loop-rest-preserved
loop-rest-preserved c = λ b before bytes items h.
    let new : LiveReader = record { alloc = c.loop-rest.self.alloc; core = c.take.new.core; decoder = c.feed.new.self; phase = c.loop-rest.self.phase; taken = c.count_more-self.result; answers = c.loop-rest.self.answers; version = c.in_ok-taken.taken.version } in
    so_far_more c.args.now c.args.piece.now c.loop-rest.rest.now b before bytes items c.args.self.now c.loop-rest.self c.args.out.now.items c.loop-rest.out.items (c.loop-rest.invariant b before bytes items h)
    c.in-Ok.fed c.in-Some.item c.feed.new.self c.in-Ok.ensures.stands_in c.in-Some.is new c.take.new.out.items c.in_ok-taken.ensures.ok c.split_at.result.1.now (sym c.closes-closing.ensures ∙ c.if-closing.false) refl c.in-Ok.ensures.limit refl c.split_at.ensures.back (c.count_more-self.ensures ∙ ap (λ (b : Bool). count_more c.loop-rest.self.taken b) c.in_ok-taken.ensures.taken.comes) refl c.in_ok-taken.ensures.taken.version

pub returns : goal.returns
returns c = λ b before bytes items h.
    all_taken c.args.now c.args.piece.now c.loop-rest.rest.now b before bytes items c.args.self.now c.loop-rest.self c.args.out.now.items c.loop-rest.out.items (c.loop-rest.invariant b before bytes items h) (grind (arith, nat_tests))
