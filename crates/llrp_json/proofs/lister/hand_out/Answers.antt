use Rattle.llrp_json.proofs.lister.hand_out.Goals as goal

pub returns-clause-text : goal.returns-clause-text
returns-clause-text g c = λ was held. (rw (c.whole.ensures was held) at c.in_ok-extend_from_slice.ensures).items
