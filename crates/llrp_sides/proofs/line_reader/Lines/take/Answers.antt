use Rattle.std.proofs.Common.{◌∙◌, ◌∷◌, ◌++◌, List, ℕ, [], ap, append_assoc, refl, subst, sym}
use Rattle.llrp_sides.specs.declared.session.Session.{Session}
use Rattle.llrp_sides.specs.Private.Sessions.{InStep}
use Rattle.llrp_sides.proofs.LineLemmas.{nothing_taken, took_line, took_rest}
use Rattle.llrp_sides.proofs.line_reader.Lines.take.Goals as goal

pub lines-init : goal.lines-init
lines-init c = record {
  taken = [];
  parts = refl;
  so = record { in_step = c.requires; stands = λ form port bytes done s. nothing_taken form port bytes (done ++ c.args.text.now) c.args.self.now s };
}

pub end_line-requires : goal.end_line-requires
end_line-requires c = subst (λ (x : Session). InStep x) (sym c.in_ok-add.ensures.session) c.lines.invariant.so.in_step

pub lines-preserved : goal.lines-preserved
lines-preserved c =
    let so = c.lines.invariant in
    let part = c.in-Some.part.now in
    let later = c.in-Some.later.now in
    record {
      taken = so.taken ++ (part ++ 10 ∷ []);
      parts = so.parts ∙ ap (λ (x : List ℕ). so.taken ++ x) (c.in-Some.ensures.1 ∙ sym (append_assoc part (10 ∷ []) later)) ∙ sym (append_assoc so.taken (part ++ 10 ∷ []) later);
      so = took_line so.taken part c.args.self.now c.lines.self c.add.new.self c.end_line.new.self c.args.text.now c.lines.text c.end_line.new.text so.so c.in-Some.ensures.0 c.in_ok-add.ensures.line c.in_ok-add.ensures.session c.in_ok-end_line.ensures c.in_ok-end_line.ensures.takes.2.in_step;
    }

pub returns : goal.returns
returns c =
    let so = c.lines.invariant in
    took_rest so.taken c.lines.rest.now c.args.piece.now c.args.self.now c.lines.self c.add-2.new.self c.args.text.now c.lines.text so.parts so.so c.in_default.ensures c.in_ok-add-2.ensures.line c.in_ok-add-2.ensures.session
