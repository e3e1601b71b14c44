use Rattle.std.proofs.Common.{◌≡◌, ◌++◌, ◌∷◌, [], ℕ, List, refl, sym, ◌∙◌, arith, append_assoc, length, length-append, subst}
use Rattle.std.proofs.lemmas.List.{append-nil}
use Rattle.std.proofs.lemmas.Result.{err_from_is_err_and}
use Rattle.llrp_schema.specs.declared.kinds.KindSet.{KindSet}
use Rattle.llrp_listing.specs.Private.Encoder.{Stopped}
use Rattle.llrp_listing.specs.Private.EncodeBuffer.{row_count}
use Rattle.llrp_listing.specs.Private.EncoderState.{Stands}
use Rattle.llrp_listing.specs.Private.ShortLines.{value_node}
use Rattle.llrp_listing.proofs.EncoderSteps.{says_can, says_entries}
use Rattle.llrp_listing.proofs.Standing.{piece_left, piece_parts, stopped_more}
use Rattle.llrp_listing.proofs.encode.Encoder.take_values.Goals as goal

pub lines-init : goal.lines-init
lines-init g c = record {
  taken = [];
  parts = refl;
  stands = λ start text s. subst (λ (z : List ℕ). Stands start (g.W.Sink.log c.args.w.now) z c.args.self.now) (sym (append-nil text)) s;
  number = omega arith;
  set = refl;
  limit = refl;
  sink = refl;
}

pub take_value-requires-clause-can : goal.take_value-requires-clause-can
take_value-requires-clause-can g c =
    let (start, text, s0) = c.requires.stands in
    let s = c.lines.invariant.stands start text s0 in
    let writer = c.lines.self.writer in
    let level = row_count writer.rows in
    let line = value_node c.in-Some-read_value_once.line in
    (s.out, s.ns, s.rests, says_can s.ns _ level line (says_entries writer s.out s.ns _ level line s.rests c.in-Some-read_value_once.ensures.says))

pub returns-in_err-take_value : goal.returns-in_err-take_value
returns-in_err-take_value g c =
    let p = err_from_is_err_and c.from_residual.result c.from_residual.ensures.1 in
    let taken = c.lines.invariant.taken in
    let part = c.in-Some.part.now in
    let after = c.in-Some.after.now in
    let now = g.W.Sink.log c.take_value.new.w in
    let e = c.in_err-take_value.field-0.0 in
    let set = c.args.self.now.guess in
    let limit = c.args.self.now.writer.limit in
    let old = c.lines.self in
    let level = row_count old.writer.rows in
    let line = value_node c.in-Some-read_value_once.line in
    let stands = rw c.note_parameter.ensures at c.in_err-take_value.ensures.stands in
    rw (p.1, p.2) (λ start text s0.
    let s = c.lines.invariant.stands start text s0 in
    let stop : Stopped set limit start now ((text ++ taken) ++ (part ++ (10 ∷ []))) e = subst (λ (q : KindSet). Stopped q limit start now ((text ++ taken) ++ (part ++ (10 ∷ []))) e) c.lines.invariant.set
    (subst (λ (l : ℕ). Stopped old.guess l start now ((text ++ taken) ++ (part ++ (10 ∷ []))) e) c.lines.invariant.limit (stands start (text ++ taken) old.line.items part s.out s.ns s.rests s.after c.in-Some.ensures.0 (says_entries old.writer s.out s.ns _ level line s.rests c.in-Some-read_value_once.ensures.says))) in
    subst (λ (z : List ℕ). Stopped set limit start now z e) (piece_parts text taken part after c.lines.rest.now c.args.text.now c.lines.invariant.parts c.in-Some.ensures.1) (stopped_more set limit start now ((text ++ taken) ++ (part ++ (10 ∷ []))) after e stop))

pub lines-preserved : goal.lines-preserved
lines-preserved g c =
    let taken = c.lines.invariant.taken in
    let part = c.in-Some.part.now in
    let after = c.in-Some.after.now in
    let old = c.lines.self in
    let level = row_count old.writer.rows in
    let line = value_node c.in-Some-read_value_once.line in
    let stands = rw c.note_parameter.ensures at c.in_ok-take_value.ensures.stands in
    record {
      taken = taken ++ (part ++ (10 ∷ []));
      parts = piece_left taken part after c.lines.rest.now c.args.text.now c.lines.invariant.parts c.in-Some.ensures.1;
      stands = λ start text s0. let s = c.lines.invariant.stands start text s0 in
          subst (λ (z : List ℕ). Stands start (g.W.Sink.log c.take_value.new.w) z c.take_value.new.self) (append_assoc text taken (part ++ (10 ∷ [])))
          (stands start (text ++ taken) old.line.items part s.out s.ns s.rests s.after c.in-Some.ensures.0 (says_entries old.writer s.out s.ns _ level line s.rests c.in-Some-read_value_once.ensures.says));
      number = omega (arith, c.in_ok-take_value.ensures.number, c.lines.invariant.number, length-append taken (part ++ (10 ∷ [])), length-append part (10 ∷ []));
      set = c.in_ok-take_value.ensures.set ∙ c.note_parameter.ensures ∙ c.lines.invariant.set;
      limit = c.in_ok-take_value.ensures.limit ∙ c.lines.invariant.limit;
      sink = c.in_ok-take_value.ensures.sink ∙ c.lines.invariant.sink;
    }
