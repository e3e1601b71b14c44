use Rattle.tag_forms.proofs.PrefixLemmas.{SeenLongest}
use Rattle.tag_forms.proofs.prefixes.longest.Given as goal

abbrev pub invariant-loop-entry : goal.invariant-loop-entry
invariant-loop-entry l = SeenLongest l.entries l.digits l.entry-index l.best
