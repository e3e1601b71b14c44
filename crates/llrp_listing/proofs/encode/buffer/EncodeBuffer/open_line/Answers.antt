use Rattle.std.proofs.Common.{List, ℕ, sym, subst}
use Rattle.std.specs.Prelude.{IfErr, OnOk}
use Rattle.llrp_listing.specs.Private.EncodeBuffer.{Fails, Holds, Opens}
use Rattle.llrp_listing.specs.Private.OpenNodes.{OpenNode}
use Rattle.llrp_listing.proofs.encode.buffer.EncodeBuffer.open_line.Goals as goal

pub returns-then-level-eq0-clause-opened : goal.returns-then-level-eq0-clause-opened
returns-then-level-eq0-clause-opened c =
    subst (λ (l : ℕ). OnOk c.open_message.result (Opens c.args.self.now c.open_message.new.self c.args.held c.args.put c.args.at l)) (sym c.if-level-eq0.true) c.open_message.ensures.opened

pub returns-then-level-eq0-clause-stopped : goal.returns-then-level-eq0-clause-stopped
returns-then-level-eq0-clause-stopped c =
    subst (λ (l : ℕ). IfErr c.open_message.result (λ e. (out more : List ℕ) (ns : List OpenNode) → Holds c.args.self.now c.args.at out more ns → Fails c.args.self.now.limit l ns e)) (sym c.if-level-eq0.true) c.open_message.ensures.stopped
