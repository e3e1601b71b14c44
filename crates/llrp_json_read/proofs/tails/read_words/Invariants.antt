use Rattle.std.proofs.Common.{drop}
use Rattle.json.specs.Value.{items_view}
use Rattle.llrp_json_read.proofs.WordTexts.{WordsRead}
use Rattle.llrp_json_read.proofs.tails.read_words.Given as goal

abbrev pub invariant-loop-value : goal.invariant-loop-value
invariant-loop-value l = WordsRead (items_view l.values) l.octets.items (items_view (drop l.value-index l.values))
