use Rattle.llrp_commands.proofs.LabelLemmas.{encoded_plain}
use Rattle.llrp_commands.proofs.labelled.encode_labelled.Goals as goal

pub returns-in-Ok-encode : goal.returns-in-Ok-encode
returns-in-Ok-encode g c =
    let (text, read, plain) = c.in-Ok.ensures in
    (text, c.in-Ok.plain.items, _, read, plain, encoded_plain c.args.hex c.args.set c.args.limit _ _ c.as_slice.result.now c.in-Ok.plain.items _ _ _ c.new-listing.ensures c.as_slice.ensures.value (rw c.in-Ok-encode.is at c.encode.ensures))
