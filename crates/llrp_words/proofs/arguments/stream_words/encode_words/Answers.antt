use Rattle.std.proofs.Common.{codes, Some, sym}
use Rattle.clap.specs.Walk.{one_of}
use Rattle.clap.specs.Words.{found_of, rows_of}
use Rattle.llrp_words.proofs.ArgumentLemmas.{reads_flag}
use Rattle.llrp_words.proofs.AskedLemmas.{flag_is, given_flag, limit_is, same_encode}
use Rattle.llrp_words.proofs.arguments.stream_words.encode_words.Goals as goal

pub limit-requires : goal.limit-requires
limit-requires c = c.requires.0.2

pub returns-clause-words : goal.returns-clause-words
returns-clause-words c = λ name.
    let f = found_of c.args.inner.now in
    let labels = c.label_words.ensures name in
    same_encode _ _ (flag_is f (codes "hex") c.get_flag.result c.get_flag.ensures.none c.get_flag.ensures.value c.get_flag.ensures.other c.requires.0.0)
    (flag_is f (codes "all") c.get_flag-2.result c.get_flag-2.ensures.none c.get_flag-2.ensures.value c.get_flag-2.ensures.other c.requires.0.1)
    (flag_is f (codes "json") c.get_flag-3.result c.get_flag-3.ensures.none c.get_flag-3.ensures.value c.get_flag-3.ensures.other c.requires.0.3) (limit_is (Some (name, rows_of f)) c.limit.result (c.limit.ensures.number name))
    (sym (given_flag (one_of (codes "keys") (rows_of f)) c.label_words.result.keys (reads_flag (one_of (codes "keys") (rows_of f)) c.label_words.result.keys labels.0 c.requires.1))) (sym labels.1)
