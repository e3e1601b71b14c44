use Rattle.std.proofs.Common.{refl}
use Rattle.std.proofs.lemmas.Result.{err_from_is_err_and}
use Rattle.llrp_live.specs.Calls.Living.{begun}
use Rattle.llrp_general.specs.Calls.Serving.{all_dated}
use Rattle.llrp_general.proofs.OtherLemmas.{not_noted, noted}
use Rattle.llrp_general.proofs.serving.WholeReader.note_other.Goals as goal

pub returns-in_err-notify : goal.returns-in_err-notify
returns-in_err-notify c =
    let p = err_from_is_err_and c.from_residual.result c.from_residual.ensures.1 in
    rw (p.1, p.2) (λ s others bytes messages h. (refl, not_noted s others bytes messages c.args.self.now h c.notify.new.self c.in_err-notify.ensures.self_unchanged))

pub returns : goal.returns
returns c = λ s others bytes messages h. noted s others bytes messages c.args.self.now h _ c.args.sent.now.items c.notify.new.out.items (c.in_ok-notify.ensures.notes (begun s.reader s.answers) (all_dated h.follows.done) bytes h.items h.follows.lives) refl refl refl refl
