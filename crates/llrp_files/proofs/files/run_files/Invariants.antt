use Rattle.std.proofs.Common.{take}
use Rattle.std.specs.Prelude.{map}
use Rattle.llrp_words.specs.Calls.Said.{said}
use Rattle.llrp_files.specs.Calls.Files.{RanFiles}
use Rattle.llrp_files.proofs.files.run_files.Given as goal

abbrev pub invariant-loop-name : goal.invariant-loop-name
invariant-loop-name g l =
    RanFiles (g.I.Inputs.stands l.fn.inputs) (said l.fn.request) 0 (map (λ name. name.now) (take l.name-index l.names)) (g.W.Write.contents l.fn.w) (g.W.Write.contents l.w) (g.E.Sink.log l.fn.e) (g.E.Sink.log l.e) l.worst
