use Rattle.std.proofs.Common.{[], sym, subst, arith}
use Rattle.std.proofs.lemmas.List.{append-nil}
use Rattle.llrp_listing.specs.Lines.{lines_of}
use Rattle.llrp_json_read.specs.LinesRead.{AreLineFrames}
use Rattle.llrp_json_read.proofs.LineRuns.{ends_last, ends_whole}
use Rattle.llrp_json_read.proofs.run.Lines.end.Goals as goal

pub returns-then-is_empty : goal.returns-then-is_empty
returns-then-is_empty c = λ text bytes s. ([], sym (append-nil c.args.frames.now.items), subst (AreLineFrames c.args.set c.args.limit (lines_of text)) (sym (append-nil bytes)) (ends_whole c.args.set c.args.limit text bytes c.args.self.now s (grind (arith, c.is_empty.ensures, c.if-is_empty.true))))

pub returns : goal.returns
returns c = λ text bytes s. ends_last c.args.set c.args.limit text bytes _ _ c.args.self.now c.end_line.result s (grind (arith, c.is_empty.ensures, c.if-is_empty.false)) c.requires.short c.end_line.ensures.ended
