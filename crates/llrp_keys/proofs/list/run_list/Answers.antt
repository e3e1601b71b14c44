use Rattle.std.proofs.Common.{◌≡◌, ◌∙◌, ◌+◌, ◌++◌, rules, ap, Bool, List, ℕ, [], refl, sym, subst, inl, inr}
use Rattle.std.specs.Prelude.{◌||◌}
use Rattle.std.proofs.lemmas.Result.{err_from_is_err_and}
use Rattle.llrp_listing.specs.Calls.Copying.{Given}
use Rattle.llrp_listing.specs.Copying.{ReadAll}
use Rattle.llrp_stream.specs.Device.{Wrote}
use Rattle.llrp_stream.proofs.WritingLemmas.{same_failures, wrote_more, wrote_nothing}
use Rattle.tag_forms.specs.Lists.{Answers}
use Rattle.llrp_keys.specs.TextLines.{verdict_of}
use Rattle.llrp_keys.specs.ListLines.{AreListAnswers}
use Rattle.llrp_keys.proofs.ListLemmas.{answers_as, answers_more, ended_as, none_read, was_read, write_stopped}
use Rattle.llrp_keys.proofs.list.run_list.Goals as goal

pub loop-answers-init : goal.loop-answers-init
loop-answers-init g c = record {
  text = [];
  lines = [];
  given = search rules;
  ready = c.new-list.ensures.ready;
  to = c.new-list.ensures.to;
  filter = c.new-list.ensures.filter;
  company = c.new-list.ensures.company;
  ended = (c.new-list.ensures.line, c.new-list.ensures.refused, refl);
  wrote = wrote_nothing (g.W.Sink.log c.args.w.now);
  empty = c.new-answers.ensures.items;
  sink = refl;
}

pub returns-in_err-piece : goal.returns-in_err-piece
returns-in_err-piece g c =
    let p = err_from_is_err_and c.from_residual.result c.from_residual.ensures.1 in
    let so = c.loop-answers.invariant in
    rw (p.1, p.2) (none_read c.args.to c.args.filter c.args.company _ _ _ _ so.text so.lines _ (c.in_err-piece.ensures.next _ _ so.given) (c.loop-answers.list.line.items, c.loop-answers.list.refused, so.ended) so.wrote)

pub returns-in_err-take : goal.returns-in_err-take
returns-in_err-take g c =
    let p = err_from_is_err_and c.from_residual-in_err-take.result c.from_residual-in_err-take.ensures.1 in
    let so = c.loop-answers.invariant in
    let given : Given (g.R.Source.log c.args.r.now) (g.R.Source.log c.next.new.r) (c.loop-answers.pieces.reads + 1) (so.text ++ c.in-Some.piece.now) = rw c.in-Some.is at (c.in_ok-piece.ensures.next _ _ so.given) in
    rw (p.1, p.2) (so.lines, inl (so.text, c.in-Some.piece.now, inl (c.loop-answers.pieces.reads + 1, given.gave), (c.loop-answers.list.line.items, c.loop-answers.list.refused, so.ended)), so.wrote)

pub loop-answers-preserved : goal.loop-answers-preserved
loop-answers-preserved g c =
    let so = c.loop-answers.invariant in
    let same = c.in_ok-take.ensures.same in
    let (refused, more, new, flag, grown) = c.in_ok-take.ensures.answers in
    let here = answers_as _ c.args.to _ c.args.filter _ c.args.company _ _ _ refused more so.to so.filter so.company new in
    let all = answers_more c.args.to c.args.filter c.args.company [] so.text c.in-Some.piece.now c.loop-answers.list.line.items c.take.new.self.line.items c.loop-answers.list.refused refused so.lines more so.ended here in
    let out : c.take.new.answers.items ≡ more = grown ∙ ap (λ (x : List ℕ). x ++ more) so.empty in
    let written : Wrote (g.W.Sink.log c.loop-answers.w) (g.W.Sink.log c.hand_on.new.w) more = rw out at c.in_ok-hand_on.ensures.written in
    record {
      text = so.text ++ c.in-Some.piece.now;
      lines = so.lines ++ more;
      given = search rules;
      ready = c.in_ok-take.ensures.ready;
      to = same.to ∙ so.to;
      filter = same.filter ∙ so.filter;
      company = same.company ∙ so.company;
      ended = subst (λ (b : Bool). Answers c.args.to c.args.filter c.args.company [] (so.text ++ c.in-Some.piece.now) c.take.new.self.line.items b (so.lines ++ more)) (sym flag) all;
      wrote = wrote_more _ _ _ so.lines more so.wrote written;
      empty = c.in_ok-hand_on.ensures.emptied;
      sink = same_failures _ _ _ written ∙ so.sink;
    }

pub returns-in_err-hand_on : goal.returns-in_err-hand_on
returns-in_err-hand_on g c =
    let p = err_from_is_err_and c.from_residual-in_err-hand_on.result c.from_residual-in_err-hand_on.ensures.1 in
    let so = c.loop-answers.invariant in
    let now = so.text ++ c.in-Some.piece.now in
    let given : Given (g.R.Source.log c.args.r.now) (g.R.Source.log c.next.new.r) (c.loop-answers.pieces.reads + 1) now = rw c.in-Some.is at (c.in_ok-piece.ensures.next _ _ so.given) in
    let (refused, more, new, flag, grown) = c.in_ok-take.ensures.answers in
    let here = answers_as _ c.args.to _ c.args.filter _ c.args.company _ _ _ refused more so.to so.filter so.company new in
    let all = answers_more c.args.to c.args.filter c.args.company [] so.text c.in-Some.piece.now c.loop-answers.list.line.items c.take.new.self.line.items c.loop-answers.list.refused refused so.lines more so.ended here in
    let out : c.take.new.answers.items ≡ more = grown ∙ ap (λ (x : List ℕ). x ++ more) so.empty in
    let first = inl (now, [], was_read _ _ now (inl (c.loop-answers.pieces.reads + 1, given.gave)), (c.take.new.self.line.items, c.loop-answers.list.refused || refused, all)) in
    rw (p.1, p.2) (write_stopped c.args.to c.args.filter c.args.company _ _ _ _ _ so.lines more c.in_err-hand_on.field-0.0 first so.wrote (rw out at c.in_err-hand_on.ensures.written))

pub returns-in_err-hand_on-2 : goal.returns-in_err-hand_on-2
returns-in_err-hand_on-2 g c =
    let p = err_from_is_err_and c.from_residual-in_err-hand_on-2.result c.from_residual-in_err-hand_on-2.ensures.1 in
    let so = c.loop-answers.invariant in
    let all : ReadAll (g.R.Source.log c.args.r.now) (g.R.Source.log c.next.new.r) so.text = search rules in
    let (refused, more, new, flag, grown) = c.in_ok-end.ensures.answers in
    let here = ended_as _ c.args.to _ c.args.filter _ c.args.company _ refused more so.to so.filter so.company new in
    let out : c.end.new.answers.items ≡ more = grown ∙ ap (λ (x : List ℕ). x ++ more) so.empty in
    let answers : AreListAnswers c.args.to c.args.filter c.args.company so.text (verdict_of (c.loop-answers.list.refused || refused)) (so.lines ++ more) =
    (c.loop-answers.list.line.items, c.loop-answers.list.refused, refused, so.lines, more, so.ended, here, refl, refl) in
    let first = inr (so.text, verdict_of (c.loop-answers.list.refused || refused), all, answers) in
    rw (p.1, p.2) (write_stopped c.args.to c.args.filter c.args.company _ _ _ _ _ so.lines more c.in_err-hand_on-2.field-0.0 first so.wrote (rw out at c.in_err-hand_on-2.ensures.written))

pub returns : goal.returns
returns g c =
    let so = c.loop-answers.invariant in
    let all : ReadAll (g.R.Source.log c.args.r.now) (g.R.Source.log c.next.new.r) so.text = search rules in
    let (refused, more, new, flag, grown) = c.in_ok-end.ensures.answers in
    let here = ended_as _ c.args.to _ c.args.filter _ c.args.company _ refused more so.to so.filter so.company new in
    let out : c.end.new.answers.items ≡ more = grown ∙ ap (λ (x : List ℕ). x ++ more) so.empty in
    let written : Wrote (g.W.Sink.log c.loop-answers.w) (g.W.Sink.log c.hand_on-2.new.w) more = rw out at c.in_ok-hand_on-2.ensures.written in
    let verdict : c.verdict_of.result ≡ verdict_of (c.loop-answers.list.refused || refused) = c.verdict_of.ensures ∙ ap verdict_of (c.refused.ensures ∙ flag) in
    (so.text, so.lines ++ more, all, (c.loop-answers.list.line.items, c.loop-answers.list.refused, refused, so.lines, more, so.ended, here, verdict, refl), wrote_more _ _ _ so.lines more so.wrote written)
