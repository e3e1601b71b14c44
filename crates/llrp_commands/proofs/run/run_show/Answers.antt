use Rattle.std.proofs.Common.{ap, false, true}
use Rattle.llrp_words.specs.Calls.Said.{said_show, text_of}
use Rattle.llrp_commands.proofs.RunLemmas.{both_ways, captures, labels_are, no_capture, others_are, plain_is, segments_are, shows_captured, shows_labelled, shows_named, shows_plain}
use Rattle.llrp_commands.proofs.run.run_show.Goals as goal

pub returns-then-asks-clause-does : goal.returns-then-asks-clause-does
returns-then-asks-clause-does g c =
    let w = c.args.words in
    shows_labelled (said_show w) c.goes_without_labels-other.result _ _ _ _ _ _ _ (labels_are w.labels c.asks.result true c.asks.ensures c.if-asks.true) (others_are w.json w.names w.capture _ c.goes_without_labels-other.ensures) (rw c.set_of-set.ensures at c.show_with_labels.ensures.shown)

pub returns-then-asks-clause-segments : goal.returns-then-asks-clause-segments
returns-then-asks-clause-segments g c = λ port m.
    let w = c.args.words in
    both_ways _ (labels_are w.labels c.asks.result true c.asks.ensures c.if-asks.true) m.0

pub returns-then-asks-2-clause-does : goal.returns-then-asks-2-clause-does
returns-then-asks-2-clause-does g c =
    let w = c.args.words in
    shows_captured (said_show w) c.is_plain-plain.result _ _ _ _ _ _ _ (labels_are w.labels c.asks.result false c.asks.ensures c.if-asks.false) (segments_are w.capture c.asks-2.result true c.asks-2.ensures c.if-asks-2.true)
    (plain_is w.hex w.names w.capture.segments _ c.is_plain-plain.ensures) (rw c.set_of-set.ensures at c.show_by_segments.ensures.shown)

pub returns-then-asks-2-clause-segments : goal.returns-then-asks-2-clause-segments
returns-then-asks-2-clause-segments g c = λ port m.
    let w = c.args.words in
    captures (said_show w) c.is_plain-plain.result port _ _ _ _ _ _ _ (plain_is w.hex w.names w.capture.segments _ c.is_plain-plain.ensures) (rw c.set_of-set.ensures at c.show_by_segments.ensures.shown) m

pub returns-in-Some-clause-does : goal.returns-in-Some-clause-does
returns-in-Some-clause-does g c =
    let w = c.args.words in
    shows_named (said_show w) c.in-Some.word.now _ _ _ _ _ _ _ (labels_are w.labels c.asks.result false c.asks.ensures c.if-asks.false) (segments_are w.capture c.asks-2.result false c.asks-2.ensures c.if-asks-2.false) (ap text_of c.in-Some.is)
    (rw c.set_of-set.ensures at c.show_by_names.ensures.named)

pub returns-in-Some-clause-segments : goal.returns-in-Some-clause-segments
returns-in-Some-clause-segments g c = λ port m.
    let w = c.args.words in
    no_capture (said_show w) port (segments_are w.capture c.asks-2.result false c.asks-2.ensures c.if-asks-2.false) m

pub returns-in-None-clause-does : goal.returns-in-None-clause-does
returns-in-None-clause-does g c =
    let w = c.args.words in
    shows_plain (said_show w) _ _ _ _ _ _ c.show-outcome.result _ (labels_are w.labels c.asks.result false c.asks.ensures c.if-asks.false) (segments_are w.capture c.asks-2.result false c.asks-2.ensures c.if-asks-2.false) (ap text_of c.in-None.is)
    (rw (c.set_of-set.ensures, c.own_names.ensures) at c.show-outcome.ensures) (rw c.verdict_status.ensures at c.answer.ensures)

pub returns-in-None-clause-segments : goal.returns-in-None-clause-segments
returns-in-None-clause-segments g c = λ port m.
    let w = c.args.words in
    no_capture (said_show w) port (segments_are w.capture c.asks-2.result false c.asks-2.ensures c.if-asks-2.false) m
