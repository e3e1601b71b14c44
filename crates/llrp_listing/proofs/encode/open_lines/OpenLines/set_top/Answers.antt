use Rattle.std.proofs.Common.{◌∙◌, arith}
use Rattle.llrp_listing.proofs.Records.{top_changed}
use Rattle.llrp_listing.proofs.ValueSteps.{plain_long, plain_rows}
use Rattle.llrp_listing.proofs.encode.open_lines.OpenLines.set_top.Goals as goal

pub returns-clause-changed : goal.returns-clause-changed
returns-clause-changed c =
    let rows = c.args.self.now in
    let plain = plain_rows rows c.requires.plain in
    rw c.requires.plain
    (top_changed rows.items.items c.as_mut_slice.result.now c.len-last.result c.args.held _ (omega (arith, c.requires.some, plain_long rows c.requires.plain, c.len-last.ensures.value)) c.len-last.ensures.value c.as_mut_slice.ensures.value (λ top rest e. c.requires.kind top rest (plain ∙ e)))
