use Rattle.std.proofs.Common.{refl}
use Rattle.std.proofs.lemmas.Bool.{false≢true}
use Rattle.tag_keys.proofs.PieceLemmas.{behind_digits, strange_unless}
use Rattle.tag_keys.proofs.digits.digits_in_front.Goals as goal

pub split_at-requires : goal.split_at-requires
split_at-requires c =
    let e = c.as_bytes.ensures.value in
    let yes = rw e at c.if-are_digits.ensures in
    behind_digits c.args.text.now c.args.count c.utf8.text c.requires.some c.requires.within (yes.0 refl)

pub returns-else-are_digits-clause-strange : goal.returns-else-are_digits-clause-strange
returns-else-are_digits-clause-strange c =
    let e = c.as_bytes.ensures.value in
    let no = rw e at c.if-are_digits.ensures in
    strange_unless _ (λ d. false≢true (no.1 d))
