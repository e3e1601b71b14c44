use Rattle.std.proofs.Common.{◌∙◌, ◌++◌, List, ℕ, [], ap, refl, rules, subst, sym}
use Rattle.std.proofs.lemmas.List.{append-nil}
use Rattle.llrp_listing.specs.Copying.{ReadAll}
use Rattle.llrp_stream.proofs.WritingLemmas.{same_failures, wrote_more, wrote_nothing}
use Rattle.llrp_sides.specs.Private.LineSteps.{Stands}
use Rattle.llrp_sides.proofs.line_reader.show_segments.Goals as goal

pub pieces-init : goal.pieces-init
pieces-init g c = record {
  bytes = [];
  listing = [];
  given = search rules;
  stands = c.new-lines.ensures.stands;
  in_step = c.new-lines.ensures.in_step;
  empty = c.new-text.ensures;
  wrote = wrote_nothing (g.W.Sink.log c.args.w.now);
  sink = refl;
}

pub pieces-preserved : goal.pieces-preserved
pieces-preserved g c =
    let so = c.pieces.invariant in
    let t = c.in_default.ensures in
    let written = c.in_ok-write-in-Ok-Some.ensures.wrote in
    let before = subst (λ (x : List ℕ). Stands c.args.form c.args.port so.bytes x c.pieces.lines) (sym (append-nil so.listing) ∙ ap (λ (x : List ℕ). so.listing ++ x) (sym so.empty)) so.stands in
    record {
      bytes = so.bytes ++ c.in-Ok-Some.piece.now;
      listing = so.listing ++ c.take-outcome.new.text;
      given = search rules;
      stands = t.stands c.args.form c.args.port so.bytes so.listing before;
      in_step = t.in_step;
      empty = c.write.ensures.emptied;
      wrote = wrote_more _ _ _ so.listing c.take-outcome.new.text so.wrote written;
      sink = same_failures _ _ _ written ∙ so.sink;
    }

pub returns-in-Ok : goal.returns-in-Ok
returns-in-Ok g c =
    let so = c.pieces.invariant in
    let all : ReadAll (g.R.Source.log c.args.r.now) (g.R.Source.log c.next.new.r) so.bytes = search rules in
    let before = subst (λ (x : List ℕ). Stands c.args.form c.args.port so.bytes x c.pieces.lines) (sym (append-nil so.listing) ∙ ap (λ (x : List ℕ). so.listing ++ x) (sym so.empty)) so.stands in (
      so.bytes,
      so.listing ++ c.end-outcome.new.text,
      all,
      c.in-Ok.ensures c.args.form c.args.port so.bytes so.listing before,
      wrote_more _ _ _ so.listing c.end-outcome.new.text so.wrote c.in_ok-write.ensures.wrote,
    )
