use Rattle.tag_forms.specs.Lists.{IsReady, IsSameList}
use Rattle.tag_forms.proofs.ListLemmas.{SoFar}
use Rattle.tag_forms.proofs.list.TextList.take.Given as goal

abbrev pub invariant-loop-octet : goal.invariant-loop-octet
invariant-loop-octet l = record {
  ready : IsReady l.self;
  same : IsSameList l.fn.self l.self;
  so_far : SoFar l.fn.self l.self l.fn.answers.items l.answers.items l.piece l.octet-index;
}
