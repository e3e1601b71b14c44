use Rattle.std.proofs.Common.{ℕ, List, length}
use Rattle.llrp_stream.specs.declared.item.Item.{Item}
use Rattle.llrp_live.specs.Calls.Doings.{Dated}
use Rattle.llrp_live.specs.Calls.Living.{Begun, Lives}
use Rattle.llrp_live.proofs.LiveLemmas.{SoFar}
use Rattle.llrp_live.proofs.reader.LiveReader.take_all.Given as goal

abbrev pub invariant-loop-rest : goal.invariant-loop-rest
invariant-loop-rest l = (b : Begun) (before : List Dated) (bytes : List ℕ) (items : List Item) → Lives b before bytes items l.fn.self
    → SoFar l.now l.piece l.rest b before bytes items l.fn.self l.self l.fn.out.items l.out.items

abbrev pub decreases-loop-rest : goal.decreases-loop-rest
decreases-loop-rest l = length l.rest
