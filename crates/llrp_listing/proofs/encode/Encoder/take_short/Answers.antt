use Rattle.std.proofs.Common.{ℕ, ◌++◌, length, sym, subst}
use Rattle.llrp_listing.specs.Private.Encoder.{SaysAt}
use Rattle.llrp_listing.specs.NodeLine.{NodeLine}
use Rattle.llrp_listing.specs.Private.OpenNodes.{IsSaid, entries}
use Rattle.llrp_listing.specs.Private.ShortLines.{short_level}
use Rattle.llrp_listing.specs.Private.EncoderState.{CanTake}
use Rattle.llrp_listing.specs.Private.TakingLines.{said_node}
use Rattle.llrp_listing.proofs.encode.Encoder.take_short.Goals as goal

pub take_line-requires-clause-said : goal.take_line-requires-clause-said
take_line-requires-clause-said g c = subst (λ (line : NodeLine). IsSaid line) (sym c.said_short.ensures.says) c.requires.said

pub take_line-requires-clause-can : goal.take_line-requires-clause-can
take_line-requires-clause-can g c =
    let x = c.said_short in
    subst (λ (level : ℕ). CanTake c.args.self.now.writer level (said_node x.result)) (sym x.ensures.level) (subst (λ (line : NodeLine). CanTake c.args.self.now.writer (short_level c.args.line) line) (sym x.ensures.says) c.requires.can)

pub returns-clause-stands : goal.returns-clause-stands
returns-clause-stands g c = λ start text begun part out ns r s n ok.
    let x = c.said_short in
    let bytes = begun ++ part in
    let depth = length (entries ns) in
    c.take_line.ensures.stands start text begun part out ns r s n
    (subst (λ (level : ℕ). SaysAt c.args.self.now.guess depth bytes level (said_node x.result)) (sym x.ensures.level) (subst (λ (line : NodeLine). SaysAt c.args.self.now.guess depth bytes (short_level c.args.line) line) (sym x.ensures.says) ok))
