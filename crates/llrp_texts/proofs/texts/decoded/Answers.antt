use Rattle.std.proofs.Common.{◌≡◌, ◌∙◌, ◌≤◌, ◌<◌, ◌++◌, ◌∷◌, [], List, ℕ, length, ap, sym, subst, arith}
use Rattle.llrp_tree.specs.Tree.{MessageTree}
use Rattle.llrp_stream.specs.Cuts.{length_field}
use Rattle.llrp_texts.proofs.TextLemmas.{Decodes, begins, own_field, long_enough, next, halves, not_bad, one_more, all_decoded}
use Rattle.llrp_texts.proofs.texts.decoded.Goals as goal

pub get-count-requires-clause-within : goal.get-count-requires-clause-within
get-count-requires-clause-within c =
    let d = c.loop-rest.invariant c.requires.spelled.0 c.requires.spelled.1 in
    let long = long_enough (begins c.args.set c.args.limit d.left c.loop-rest.rest.now d.spelled (sym c.loop-rest-test.ensures)) in
    omega (arith, long.0, long.1)

pub split_at-requires : goal.split_at-requires
unfolding length_field
split_at-requires c =
    let d = c.loop-rest.invariant c.requires.spelled.0 c.requires.spelled.1 in
    let b = begins c.args.set c.args.limit d.left c.loop-rest.rest.now d.spelled (sym c.loop-rest-test.ensures) in
    let long = long_enough b in
    let n : c.get-count.result ≡ length b.f = c.get-count.ensures.value ∙ own_field b in
    omega (arith, n, long.1)

pub decode_frame_in-requires-clause-header : goal.decode_frame_in-requires-clause-header
unfolding length_field
decode_frame_in-requires-clause-header c =
    let d = c.loop-rest.invariant c.requires.spelled.0 c.requires.spelled.1 in
    let cut = halves c.loop-rest.rest.now c.split_at.result.0.now c.split_at.result.1.now c.get-count.result c.split_at.ensures.front c.split_at.ensures.back in
    let n = next c.args.set c.args.limit d.left c.loop-rest.rest.now c.split_at.result.0.now c.split_at.result.1.now d.spelled (sym c.loop-rest-test.ensures) cut (c.split_at.ensures.front_len ∙ c.get-count.ensures.value) in
    n.is.header

pub decode_frame_in-requires-clause-own_length : goal.decode_frame_in-requires-clause-own_length
unfolding length_field
decode_frame_in-requires-clause-own_length c =
    let d = c.loop-rest.invariant c.requires.spelled.0 c.requires.spelled.1 in
    let cut = halves c.loop-rest.rest.now c.split_at.result.0.now c.split_at.result.1.now c.get-count.result c.split_at.ensures.front c.split_at.ensures.back in
    let n = next c.args.set c.args.limit d.left c.loop-rest.rest.now c.split_at.result.0.now c.split_at.result.1.now d.spelled (sym c.loop-rest-test.ensures) cut (c.split_at.ensures.front_len ∙ c.get-count.ensures.value) in
    n.is.whole

pub unreachable-requires : goal.unreachable-requires
unfolding length_field
unreachable-requires c =
    let d = c.loop-rest.invariant c.requires.spelled.0 c.requires.spelled.1 in
    let cut = halves c.loop-rest.rest.now c.split_at.result.0.now c.split_at.result.1.now c.get-count.result c.split_at.ensures.front c.split_at.ensures.back in
    let n = next c.args.set c.args.limit d.left c.loop-rest.rest.now c.split_at.result.0.now c.split_at.result.1.now d.spelled (sym c.loop-rest-test.ensures) cut (c.split_at.ensures.front_len ∙ c.get-count.ensures.value) in
    not_bad c.args.set c.args.limit c.split_at.result.0.now n.m c.in-Err-Bad.field-0-0 n.frame (rw c.in-Err-Bad.field-0-is at c.in-Err-Bad.ensures)

pub loop-rest-smaller : goal.loop-rest-smaller
unfolding length_field
loop-rest-smaller c =
    let d = c.loop-rest.invariant c.requires.spelled.0 c.requires.spelled.1 in
    let cut = halves c.loop-rest.rest.now c.split_at.result.0.now c.split_at.result.1.now c.get-count.result c.split_at.ensures.front c.split_at.ensures.back in
    let n = next c.args.set c.args.limit d.left c.loop-rest.rest.now c.split_at.result.0.now c.split_at.result.1.now d.spelled (sym c.loop-rest-test.ensures) cut (c.split_at.ensures.front_len ∙ c.get-count.ensures.value) in
    n.less

pub loop-rest-preserved : goal.loop-rest-preserved
unfolding length_field
loop-rest-preserved c = λ ms s.
    let d = c.loop-rest.invariant ms s in
    let cut = halves c.loop-rest.rest.now c.split_at.result.0.now c.split_at.result.1.now c.get-count.result c.split_at.ensures.front c.split_at.ensures.back in
    let more = one_more c.args.set c.args.limit ms c.loop-rest.messages.items c.loop-rest.rest.now c.split_at.result.0.now c.split_at.result.1.now c.in-Ok.message d (sym c.loop-rest-test.ensures) cut (c.split_at.ensures.front_len ∙ c.get-count.ensures.value) c.in-Ok.ensures.0 c.in-Ok.ensures.1 in
    subst (λ (x : List MessageTree). Decodes c.args.set c.args.limit ms x c.split_at.result.1.now) (sym c.in_ok-push-in-Ok.ensures.items) more

pub returns-clause-messages : goal.returns-clause-messages
returns-clause-messages c = λ ms s. all_decoded c.args.set c.args.limit ms c.loop-rest.messages.items c.loop-rest.rest.now (c.loop-rest.invariant ms s) (sym c.loop-rest-test.ensures)
