use Rattle.llrp_general.proofs.FrameLemmas.{spoke}
use Rattle.llrp_general.proofs.frames.say.Goals as goal

pub returns : goal.returns
returns g c = spoke c.args.messages.now _ c.append_frames.new.out.items _ _ c.write_all.result c.new-out.ensures.items c.in_ok-append_frames.ensures.ok (rw c.as_slice.ensures.value at c.write_all.ensures)
