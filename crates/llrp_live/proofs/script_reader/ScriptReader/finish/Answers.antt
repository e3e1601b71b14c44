use Rattle.std.proofs.Common.{◌∙◌, sym}
use Rattle.llrp_live.specs.Private.Reading.{taken}
use Rattle.llrp_live.proofs.LineLemmas.{nothing_left, read_all, read_whole}
use Rattle.llrp_live.proofs.script_reader.ScriptReader.finish.Goals.{in-Some+in_ok-take_block-in-Some, in-None}
use Rattle.llrp_live.proofs.script_reader.ScriptReader.finish.Goals as goal

pub returns : goal.returns
returns c = λ bytes h.
    let held = c.args.self.held.items in
    let before = taken c.args.self.lines.items c.args.self.sent.items c.args.self.reached in
    elim c.match-split_once.branch [
      | in-Some+in_ok-take_block-in-Some w ↦ rw w.lines-is (rw w.sent-is
          (read_all bytes held w.in-Some.first.now w.in-Some.below.now before (taken w.take_block.new.lines.items w.take_block.new.sent.items w.take_block.new.reached) h (sym c.as_slice-held.ensures.value ∙ w.in-Some.ensures.1) w.in_ok-take_block-in-Some.ensures))
      | in-None w ↦ rw w.lines-is (rw w.sent-is
          (read_whole bytes held before h (sym c.as_slice-held.ensures.value ∙ nothing_left c.as_slice-held.result.now w.is_empty.result w.is_empty.ensures w.if-is_empty.true)))
    ]
