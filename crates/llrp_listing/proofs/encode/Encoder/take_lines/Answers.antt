use Rattle.std.proofs.Common.{◌≡◌, ◌++◌, ◌∷◌, [], ℕ, List, refl, sym, ap, ◌∙◌, arith, append_assoc, length, length-append, subst, take}
use Rattle.std.specs.Prelude.{MatchResult}
use Rattle.std.proofs.Math.Seq.{take-append_seam}
use Rattle.std.proofs.lemmas.List.{append-nil}
use Rattle.std.proofs.lemmas.Result.{err_from_is_err_and}
use Rattle.llrp_schema.specs.declared.kinds.KindSet.{KindSet}
use Rattle.llrp_listing.specs.Private.Encoder.{Stopped}
use Rattle.llrp_listing.proofs.Standing.{piece_left, piece_parts, stopped_more}
use Rattle.llrp_listing.specs.Private.EncoderState.{Stands}
use Rattle.llrp_listing.proofs.encode.Encoder.take_lines.Goals as goal

pub lines-init : goal.lines-init
lines-init g c = record {
  taken = [];
  parts = refl;
  stands = λ start text s. subst (λ (z : List ℕ). Stands start (g.W.Sink.log c.args.w.now) z c.args.self.now) (sym (append-nil text)) s;
  number = omega arith;
  set = refl;
  limit = refl;
  sink = refl;
}

pub returns-in_err-end_line-clause-stands : goal.returns-in_err-end_line-clause-stands
returns-in_err-end_line-clause-stands g c =
    let p = err_from_is_err_and c.from_residual.result c.from_residual.ensures.1 in
    let taken = c.lines.invariant.taken in
    let part = c.in-Some.part.now in
    let after = c.in-Some.after.now in
    let now = g.W.Sink.log c.end_line.new.w in
    let e = c.in_err-end_line.field-0.0 in
    let set = c.args.self.now.guess in
    let limit = c.args.self.now.writer.limit in
    rw (p.1, p.2) (λ start text s.
    let stop : Stopped set limit start now ((text ++ taken) ++ (part ++ (10 ∷ []))) e = subst (λ (q : KindSet). Stopped q limit start now ((text ++ taken) ++ (part ++ (10 ∷ []))) e) c.lines.invariant.set
    (subst (λ (l : ℕ). Stopped c.lines.self.guess l start now ((text ++ taken) ++ (part ++ (10 ∷ []))) e) c.lines.invariant.limit (c.in_err-end_line.ensures.stands start (text ++ taken) c.in-Some.ensures.0 (c.lines.invariant.stands start text s))) in
    subst (λ (z : List ℕ). Stopped set limit start now z e) (piece_parts text taken part after c.lines.rest.now c.args.piece.now c.lines.invariant.parts c.in-Some.ensures.1) (stopped_more set limit start now ((text ++ taken) ++ (part ++ (10 ∷ []))) after e stop))

pub lines-preserved : goal.lines-preserved
lines-preserved g c =
    let taken = c.lines.invariant.taken in
    let part = c.in-Some.part.now in
    let after = c.in-Some.after.now in
    let line = part ++ (10 ∷ []) in
    let t = c.in_ok-rest.ensures in
    record {
      taken = (taken ++ line) ++ t.taken;
      parts = piece_left taken part after c.lines.rest.now c.args.piece.now c.lines.invariant.parts c.in-Some.ensures.1 ∙ ap (λ (z : List ℕ). (taken ++ line) ++ z) t.parts ∙ sym (append_assoc (taken ++ line) t.taken _);
      stands = λ start text s.
          subst (λ (z : List ℕ). Stands start (g.W.Sink.log c.take_next_values.new.w) z c.take_next_values.new.self) (append_assoc text (taken ++ line) t.taken)
          (t.stands start (text ++ (taken ++ line)) (subst (λ (z : List ℕ). Stands start (g.W.Sink.log c.end_line.new.w) z c.end_line.new.self) (append_assoc text taken line)
          (c.in_ok-end_line.ensures.stands start (text ++ taken) c.in-Some.ensures.0 (c.lines.invariant.stands start text s))));
      number = omega (arith, t.number, c.in_ok-end_line.ensures.number, c.lines.invariant.number, length-append (taken ++ line) t.taken, length-append taken line, length-append part (10 ∷ []));
      set = t.set ∙ c.in_ok-end_line.ensures.set ∙ c.lines.invariant.set;
      limit = t.limit ∙ c.in_ok-end_line.ensures.limit ∙ c.lines.invariant.limit;
      sink = t.sink ∙ c.in_ok-end_line.ensures.sink ∙ c.lines.invariant.sink;
    }

pub returns-clause-stands : goal.returns-clause-stands
returns-clause-stands g c =
    let taken = c.lines.invariant.taken in
    let rest = c.lines.rest.now in
    let now = g.W.Sink.log c.go_on.new.w in
    let set = c.args.self.now.guess in
    let limit = c.args.self.now.writer.limit in
    let same : (text : List ℕ) → (text ++ taken) ++ rest ≡ text ++ c.args.piece.now = λ text. append_assoc text taken rest ∙ ap (λ (z : List ℕ). text ++ z) (sym c.lines.invariant.parts) in
    λ start text s.
    let all = (text ++ taken) ++ rest in
    subst (λ (z : List ℕ). MatchResult c.go_on.result (λ _. Stands start now z c.go_on.new.self) (Stopped set limit start now z)) (same text)
    (subst (λ (q : KindSet). MatchResult c.go_on.result (λ _. Stands start now all c.go_on.new.self) (Stopped q limit start now all)) c.lines.invariant.set
    (subst (λ (l : ℕ). MatchResult c.go_on.result (λ _. Stands start now all c.go_on.new.self) (Stopped c.lines.self.guess l start now all)) c.lines.invariant.limit
    (c.go_on.ensures.stands start (text ++ taken) c.in_default.ensures (c.lines.invariant.stands start text s))))

pub end_line-requires-clause-stands : goal.end_line-requires-clause-stands
end_line-requires-clause-stands g c = let (start, text, s) = c.requires.stands in (start, text ++ c.lines.invariant.taken, c.lines.invariant.stands start text s)

pub go_on-requires-clause-stands : goal.go_on-requires-clause-stands
go_on-requires-clause-stands g c = let (start, text, s) = c.requires.stands in (start, text ++ c.lines.invariant.taken, c.lines.invariant.stands start text s)

pub end_line-requires-clause-ahead : goal.end_line-requires-clause-ahead
end_line-requires-clause-ahead g c =
    let part = c.in-Some.part.now in
    ap (λ (z : List ℕ). take (length part) z) c.in-Some.ensures.1 ∙ take-append_seam part (10 ∷ c.in-Some.after.now)

pub take_next_values-requires-clause-stands : goal.take_next_values-requires-clause-stands
take_next_values-requires-clause-stands g c =
    let (start, text, s) = c.requires.stands in
    (start, (text ++ c.lines.invariant.taken) ++ (c.in-Some.part.now ++ (10 ∷ [])), c.in_ok-end_line.ensures.stands start (text ++ c.lines.invariant.taken) c.in-Some.ensures.0 (c.lines.invariant.stands start text s))

pub returns-in_err-rest-clause-stands : goal.returns-in_err-rest-clause-stands
returns-in_err-rest-clause-stands g c =
    let p = err_from_is_err_and c.from_residual-in_err-rest.result c.from_residual-in_err-rest.ensures.1 in
    let taken = c.lines.invariant.taken in
    let part = c.in-Some.part.now in
    let after = c.in-Some.after.now in
    let now = g.W.Sink.log c.take_next_values.new.w in
    let e = c.in_err-rest.field-0.0 in
    let set = c.args.self.now.guess in
    let limit = c.args.self.now.writer.limit in
    rw (p.1, p.2) (λ start text s.
    let all = ((text ++ taken) ++ (part ++ (10 ∷ []))) ++ after in
    let stop : Stopped set limit start now all e = subst (λ (q : KindSet). Stopped q limit start now all e) (c.in_ok-end_line.ensures.set ∙ c.lines.invariant.set)
    (subst (λ (l : ℕ). Stopped c.end_line.new.self.guess l start now all e) (c.in_ok-end_line.ensures.limit ∙ c.lines.invariant.limit)
    (c.in_err-rest.ensures start ((text ++ taken) ++ (part ++ (10 ∷ []))) (c.in_ok-end_line.ensures.stands start (text ++ taken) c.in-Some.ensures.0 (c.lines.invariant.stands start text s)))) in
    subst (λ (z : List ℕ). Stopped set limit start now z e) (piece_parts text taken part after c.lines.rest.now c.args.piece.now c.lines.invariant.parts c.in-Some.ensures.1) stop)
