use Rattle.std.proofs.Common.{◌≡◌, ◌+◌, ◌++◌, ◌&&◌, ◌∙◌, Bool, ℕ, List, ap, subst, sym, arith}
use Rattle.llrp_explain.specs.Calls.Explained.{in_form, written_if}
use Rattle.llrp_explain.specs.Private.Printing.{IsAppended}
use Rattle.llrp_explain.proofs.FrameTexts.{appended}
use Rattle.llrp_explain.proofs.explained.Explainer.end_frame.Goals as goal

pub returns-clause-text : goal.returns-clause-text
returns-clause-text c = λ frame g is octets head room.
    let number : c.saturating_add-number.result ≡ c.args.self.now.count + 1 = omega (arith, c.saturating_add-number.ensures, room) in
    let same = c.is_asked-asked.ensures frame (c.as_slice.ensures.value ∙ head) is.header in
    let written = c.in_ok-push_asked.ensures ∙ ap (λ (x : List ℕ). c.args.self.now.text.items ++ written_if c.is_asked-asked.result (in_form c.args.self.now.form c.saturating_add-number.result c.args.self.now.octets x)) c.as_slice-lines.ensures.value in
    let text = appended c.args.self.now.form c.args.self.now.only c.args.self.now.set c.args.self.now.limit c.saturating_add-number.result c.args.self.now.octets frame c.clear.new.self.items c.push_outcome.new.text.items c.args.self.now.text.items c.push_asked.new.text.items c.args.self.now.lawful c.in_ok-this.this c.is_asked-asked.result octets same c.clear.ensures.items (c.in_ok-this.ensures frame g is) written in
    subst (λ (b : Bool). IsAppended c.args.self.now.form c.args.self.now.only c.args.self.now.set c.args.self.now.limit (c.args.self.now.count + 1) frame c.args.self.now.text.items c.push_asked.new.text.items c.args.self.now.lawful b) (sym c.both-self.ensures)
    (subst (λ (n : ℕ). IsAppended c.args.self.now.form c.args.self.now.only c.args.self.now.set c.args.self.now.limit n frame c.args.self.now.text.items c.push_asked.new.text.items c.args.self.now.lawful (c.args.self.now.lawful && c.in_ok-this.this)) number text)
