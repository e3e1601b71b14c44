use Rattle.std.proofs.Common.{◌≡◌, ◌∙◌, ◌+◌, ◌++◌, ◌≤◌, rules, arith, ap, List, ℕ, [], refl, inl, length}
use Rattle.std.proofs.lemmas.Result.{err_from_is_err_and}
use Rattle.llrp_listing.specs.Calls.Copying.{Given}
use Rattle.llrp_listing.specs.Copying.{ReadAll}
use Rattle.llrp_stream.specs.Device.{Wrote}
use Rattle.llrp_stream.proofs.WritingLemmas.{same_failures, wrote_more, wrote_nothing}
use Rattle.llrp_json_read.proofs.LineRuns.{ended_frames, stands_new}
use Rattle.llrp_json_read.proofs.RunSteps.{begins_ended, begins_whole, end_stopped, none_read, piece_stopped, write_stopped}
use Rattle.llrp_json_read.proofs.run.run_encode_json.Goals as goal

pub pieces-init : goal.pieces-init
pieces-init g c = record {
  text = [];
  bytes = [];
  given = search rules;
  stands = stands_new c.args.set c.args.limit c.new-lines.result c.new-lines.ensures.line c.new-lines.ensures.number;
  wrote = wrote_nothing (g.W.Sink.log c.args.w.now);
  empty = c.new-frames.ensures.items;
  number = omega (arith, c.new-lines.ensures.number);
  short = omega (arith, ap length c.new-lines.ensures.line);
  sink = refl;
}

pub returns-in_err-piece : goal.returns-in_err-piece
returns-in_err-piece g c =
    let p = err_from_is_err_and c.from_residual.result c.from_residual.ensures.1 in
    let so = c.pieces.invariant in
    rw (p.1, p.2) (none_read c.args.set c.args.limit _ _ _ _ so.text so.bytes _ (c.in_err-piece.ensures.next _ _ so.given) (ended_frames c.args.set c.args.limit so.text so.bytes c.pieces.lines so.stands) so.wrote)

pub pieces-preserved : goal.pieces-preserved
pieces-preserved g c =
    let so = c.pieces.invariant in
    let (more, grown, stands) = c.in-Ok.ensures.taken so.text so.bytes so.stands in
    let out : c.take.new.frames.items ≡ more = grown ∙ ap (λ (x : List ℕ). x ++ more) so.empty in
    let written : Wrote (g.W.Sink.log c.pieces.w) (g.W.Sink.log c.hand_on.new.w) more = rw out at c.in_ok-hand_on-in-Ok.ensures.written in
    let small : length c.in-Some.piece.now ≤ 4096 = (rw c.in-Some.is at c.in_ok-piece.ensures.some).1 in
    let counted : c.next.follows.lender-at-none.reads ≡ c.pieces.pieces.reads + 1 = search rules in
    record {
      text = so.text ++ c.in-Some.piece.now;
      bytes = so.bytes ++ more;
      given = search rules;
      stands = stands;
      wrote = wrote_more _ _ _ so.bytes more so.wrote written;
      empty = c.in_ok-hand_on-in-Ok.ensures.emptied;
      number = omega (arith, c.in-Ok.ensures.number, so.number, small, counted);
      short = c.in-Ok.ensures.short;
      sink = same_failures _ _ _ written ∙ so.sink;
    }

pub returns-in_err-hand_on-in-Ok : goal.returns-in_err-hand_on-in-Ok
returns-in_err-hand_on-in-Ok g c =
    let p = err_from_is_err_and c.from_residual-in_err-hand_on-in-Ok.result c.from_residual-in_err-hand_on-in-Ok.ensures.1 in
    let so = c.pieces.invariant in
    let now = so.text ++ c.in-Some.piece.now in
    let given : Given (g.R.Source.log c.args.r.now) (g.R.Source.log c.next.new.r) (c.pieces.pieces.reads + 1) now = rw c.in-Some.is at (c.in_ok-piece.ensures.next _ _ so.given) in
    let (more, grown, stands) = c.in-Ok.ensures.taken so.text so.bytes so.stands in
    let out : c.take.new.frames.items ≡ more = grown ∙ ap (λ (x : List ℕ). x ++ more) so.empty in
    let first = begins_ended c.args.set c.args.limit _ _ now (so.bytes ++ more) (inl (c.pieces.pieces.reads + 1, given.gave)) (ended_frames c.args.set c.args.limit now (so.bytes ++ more) c.take.new.self stands) in
    rw (p.1, p.2) (write_stopped c.args.set c.args.limit _ _ _ _ _ so.bytes more c.in_err-hand_on-in-Ok.field-0.0 first so.wrote (rw out at c.in_err-hand_on-in-Ok.ensures.written))

pub returns-in-Err : goal.returns-in-Err
returns-in-Err g c =
    let so = c.pieces.invariant in
    let now = so.text ++ c.in-Some.piece.now in
    let given : Given (g.R.Source.log c.args.r.now) (g.R.Source.log c.next.new.r) (c.pieces.pieces.reads + 1) now = rw c.in-Some.is at (c.in_ok-piece.ensures.next _ _ so.given) in
    let (more, grown, stop) = c.in-Err.ensures.taken so.text so.bytes so.stands in
    let out : c.take.new.frames.items ≡ more = grown ∙ ap (λ (x : List ℕ). x ++ more) so.empty in
    piece_stopped c.args.set c.args.limit (c.pieces.pieces.reads + 1) _ _ _ _ _ now so.bytes more c.in-Err.error c.withdraw.result given.gave so.wrote stop.0 stop.1 (rw out at c.withdraw.ensures)

pub returns : goal.returns
returns g c =
    let so = c.pieces.invariant in
    let all : ReadAll (g.R.Source.log c.args.r.now) (g.R.Source.log c.next.new.r) so.text = search rules in
    let (more, grown, ended) = c.in-Err-end.ensures so.text so.bytes so.stands in
    let out : c.end.new.frames.items ≡ more = grown ∙ ap (λ (x : List ℕ). x ++ more) so.empty in
    end_stopped c.args.set c.args.limit _ _ _ _ _ so.text so.bytes more c.in-Err-end.error c.withdraw-in-Err-end.result all so.wrote ended (rw out at c.withdraw-in-Err-end.ensures)

pub returns-in_err-hand_on-in-Ok-end : goal.returns-in_err-hand_on-in-Ok-end
returns-in_err-hand_on-in-Ok-end g c =
    let p = err_from_is_err_and c.from_residual-in_err-hand_on-in-Ok-end.result c.from_residual-in_err-hand_on-in-Ok-end.ensures.1 in
    let so = c.pieces.invariant in
    let all : ReadAll (g.R.Source.log c.args.r.now) (g.R.Source.log c.next.new.r) so.text = search rules in
    let (more, grown, ended) = c.in-Ok-end.ensures so.text so.bytes so.stands in
    let out : c.end.new.frames.items ≡ more = grown ∙ ap (λ (x : List ℕ). x ++ more) so.empty in
    rw (p.1, p.2) (write_stopped c.args.set c.args.limit _ _ _ _ _ so.bytes more c.in_err-hand_on-in-Ok-end.field-0.0 (begins_whole c.args.set c.args.limit _ _ so.text (so.bytes ++ more) all ended) so.wrote (rw out at c.in_err-hand_on-in-Ok-end.ensures.written))

pub returns-in-Ok-end : goal.returns-in-Ok-end
returns-in-Ok-end g c =
    let so = c.pieces.invariant in
    let all : ReadAll (g.R.Source.log c.args.r.now) (g.R.Source.log c.next.new.r) so.text = search rules in
    let (more, grown, ended) = c.in-Ok-end.ensures so.text so.bytes so.stands in
    let out : c.end.new.frames.items ≡ more = grown ∙ ap (λ (x : List ℕ). x ++ more) so.empty in
    let written : Wrote (g.W.Sink.log c.pieces.w) (g.W.Sink.log c.hand_on-in-Ok-end.new.w) more = rw out at c.in_ok-hand_on-in-Ok-end.ensures.written in
    (so.text, so.bytes ++ more, all, ended, wrote_more _ _ _ so.bytes more so.wrote written)
