use Rattle.std.proofs.lemmas.Result.{err_from_is_err_and}
use Rattle.llrp_endpoints.proofs.WatchLemmas.{hurried_wrote, hurry_unwritten}
use Rattle.llrp_endpoints.proofs.watching.hurry_on.Goals as goal

pub returns-in_err-hand_on-clause-hurries : goal.returns-in_err-hand_on-clause-hurries
returns-in_err-hand_on-clause-hurries g c = λ b rest opened.
    let p = err_from_is_err_and c.from_residual.result c.from_residual.ensures.1 in
    rw (p.1, p.2) (hurry_unwritten b rest c.hurry-hurried.new.self _ _ c.hurry-hurried.new.out.items c.in_err-hand_on.field-0.0 c.in_err-hand_on.ensures.written)

pub returns-clause-hurries : goal.returns-clause-hurries
returns-clause-hurries g c = λ b rest opened.
    hurried_wrote b rest c.hurry-hurried.new.self _ _ c.args.out.now.items c.hurry-hurried.new.out.items c.hurry-hurried.result c.requires.no_frames (c.hurry-hurried.ensures.hurries b rest rest b.course opened) c.in_ok-hand_on.ensures.written
