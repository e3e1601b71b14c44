use Rattle.std.proofs.lemmas.Option.{IfSome_then}
use Rattle.llrp_c.proofs.FrameLemmas.{next_listed}
use Rattle.llrp_c.proofs.next.list_first.Goals as goal

pub returns : goal.returns
returns c =
    IfSome_then c.list_part.result c.list_part.ensures
    (λ l part. next_listed c.args.first.broken c.args.stream.now c.args.first.octets l.used l.text.items l.status c.requires part)
