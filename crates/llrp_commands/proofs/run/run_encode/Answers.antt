use Rattle.std.proofs.Common.{false, true}
use Rattle.llrp_words.specs.Calls.Said.{said_encode}
use Rattle.llrp_commands.proofs.RunLemmas.{encodes_labelled, encodes_plain, labels_are}
use Rattle.llrp_commands.proofs.run.run_encode.Goals as goal

pub returns-then-asks-clause-does : goal.returns-then-asks-clause-does
returns-then-asks-clause-does g c =
    let w = c.args.words in
    encodes_labelled (said_encode w) _ _ _ _ _ _ _ (labels_are w.labels c.asks.result true c.asks.ensures c.if-asks.true) (rw c.set_of-set.ensures at c.encode_with_labels.ensures.encoded)

pub returns-else-asks-clause-does : goal.returns-else-asks-clause-does
returns-else-asks-clause-does g c =
    let w = c.args.words in
    encodes_plain (said_encode w) _ _ _ _ _ _ _ (labels_are w.labels c.asks.result false c.asks.ensures c.if-asks.false) (rw c.set_of-set.ensures at c.encode_in_form.ensures.encoded)
