use Rattle.std.proofs.Common.{◌<◌, [], length, arith}
use Rattle.std.proofs.lemmas.Result.{err_from_is_err_and}
use Rattle.llrp_listing.proofs.TailWords.{one_more, all_read, list_stops}
use Rattle.llrp_listing.proofs.WordLemmas.{one_part, split_part}
use Rattle.llrp_listing.proofs.read_tail.read_word_list.Goals as goal

pub returns-in_err-push_word : goal.returns-in_err-push_word
returns-in_err-push_word c =
    let p = err_from_is_err_and c.from_residual.result c.from_residual.ensures.1 in
    let some : 0 < length c.args.list.now = grind (arith, c.is_empty.ensures, c.if-is_empty.false) in
    rw (p.1, p.2) (list_stops c.args.list.now c.words.octets.items c.words.rest.now c.in-Some.word.now _ c.in_err-push_word.field-0.0 c.words.invariant (split_part 44 c.words.rest.now c.in-Some.word.now c.in-Some.after.now c.in-Some.ensures) some c.in_err-push_word.ensures)

pub words-preserved : goal.words-preserved
words-preserved c = one_more c.args.list.now c.words.octets.items c.words.rest.now c.in-Some.word.now c.in-Some.after.now c.push_word.new.octets.items c.words.invariant (split_part 44 c.words.rest.now c.in-Some.word.now c.in-Some.after.now c.in-Some.ensures) c.in_ok-push_word.ensures

pub returns-in_err-push_word-2 : goal.returns-in_err-push_word-2
returns-in_err-push_word-2 c =
    let p = err_from_is_err_and c.from_residual-in_err-push_word-2.result c.from_residual-in_err-push_word-2.ensures.1 in
    let some : 0 < length c.args.list.now = grind (arith, c.is_empty.ensures, c.if-is_empty.false) in
    rw (p.1, p.2) (list_stops c.args.list.now c.words.octets.items c.words.rest.now c.words.rest.now [] c.in_err-push_word-2.field-0.0 c.words.invariant (one_part 44 c.words.rest.now c.in_default.ensures) some c.in_err-push_word-2.ensures)

pub returns : goal.returns
returns c = all_read c.args.list.now c.words.octets.items c.words.rest.now c.push_word-2.new.octets.items c.words.invariant c.in_default.ensures c.in_ok-push_word-2.ensures
