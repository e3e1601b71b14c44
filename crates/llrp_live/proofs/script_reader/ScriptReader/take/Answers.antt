use Rattle.std.proofs.Common.{sym, ap, ◌∙◌, ◌≡◌, ◌++◌, List, ℕ, rules}
use Rattle.llrp_live.specs.Private.Reading.{taken}
use Rattle.llrp_live.proofs.LineLemmas.{read_more}
use Rattle.llrp_live.proofs.script_reader.ScriptReader.take.Goals as goal

pub returns : goal.returns
returns c = λ bytes h.
    let text : c.as_slice.result.now ≡ c.args.self.now.held.items ++ c.args.piece.now = c.as_slice.ensures.value ∙ c.in_ok-extend_from_slice.ensures.items ∙ ap (λ (x : List ℕ). x ++ c.args.piece.now) (search rules) in
    let r = read_more bytes c.args.piece.now c.as_slice.result.now c.in_ok-rest.rest.now c.args.self.now.held.items (taken c.args.self.now.lines.items c.args.self.now.sent.items c.args.self.now.reached)
    (taken c.take_lines.new.lines.items c.take_lines.new.sent.items c.take_lines.new.reached) h text c.in_ok-rest.ensures in
    let kept : c.in_ok-self.field-0.items ≡ c.in_ok-rest.rest.now = search rules in
    (r.0, r.1, r.2, r.3 ∙ ap (λ (x : List ℕ). r.0 ++ x) (sym kept))
