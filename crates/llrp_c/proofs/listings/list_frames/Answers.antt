use Rattle.std.proofs.lemmas.Option.{IfSome_then}
use Rattle.llrp_c.proofs.FrameLemmas.{listed}
use Rattle.llrp_c.proofs.listings.list_frames.Goals as goal

pub returns : goal.returns
returns c =
    let frames = c.whole_frames in
    IfSome_then c.list_part.result c.list_part.ensures
    (λ l part. listed frames.result.broken c.args.stream.now frames.result.octets l.used l.text.items l.status frames.ensures.frames frames.ensures.left part)
