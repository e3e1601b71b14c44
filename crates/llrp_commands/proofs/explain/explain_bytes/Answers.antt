use Rattle.std.proofs.Common.{◌≡◌, ◌∙◌, ◌+◌, ◌<◌, ◌++◌, ◌≤◌, rules, arith, List, ℕ, [], refl, inl, inr, length, length-append}
use Rattle.std.proofs.lemmas.Result.{err_from_is_err_and}
use Rattle.llrp_listing.specs.Calls.Copying.{Given}
use Rattle.llrp_listing.specs.Copying.{ReadAll}
use Rattle.llrp_stream.proofs.WritingLemmas.{same_failures, wrote_more, wrote_nothing}
use Rattle.llrp_commands.proofs.ExplainRuns.{at_end, ended, none_came, piece_stopped, wrote_whole}
use Rattle.llrp_commands.proofs.explain.explain_bytes.Goals as goal

pub pieces-init : goal.pieces-init
pieces-init g c = record {
  bytes = [];
  taken = [];
  given = search rules;
  so_far = c.new_only-explainer.ensures.so_far;
  empty = c.new_only-explainer.ensures.text;
  wrote = wrote_nothing (g.W.Sink.log c.args.w.now);
  form = c.new_only-explainer.ensures.form;
  only = c.new_only-explainer.ensures.only;
  set = c.new_only-explainer.ensures.set;
  limit = c.new_only-explainer.ensures.limit;
  room = omega arith;
  sink = refl;
}

pub returns-in_err-piece : goal.returns-in_err-piece
returns-in_err-piece g c =
    let p = err_from_is_err_and c.from_residual.result c.from_residual.ensures.1 in
    let so = c.pieces.invariant in
    rw (p.1, p.2) (none_came c.args.form c.args.only c.args.set c.args.limit _ _ _ _ so.bytes _ (c.in_err-piece.ensures.next _ _ so.given)
    (wrote_whole c.pieces.explainer c.args.form c.args.only c.args.set c.args.limit so.bytes so.taken _ _ so.form so.only so.set so.limit so.empty so.so_far so.wrote))

pub take-requires-clause-least : goal.take-requires-clause-least
take-requires-clause-least g c = omega (arith, c.pieces.invariant.limit, c.requires.least)

pub take-requires-clause-most : goal.take-requires-clause-most
take-requires-clause-most g c = omega (arith, c.pieces.invariant.limit, c.requires.most)

pub take-requires-clause-some : goal.take-requires-clause-some
take-requires-clause-some g c =
    let so = c.pieces.invariant in
    let piece : List ℕ = c.in-Some.piece.now in
    let given : Given (g.R.Source.log c.args.r.now) (g.R.Source.log c.next.new.r) (c.pieces.pieces.reads + 1) (so.bytes ++ piece) = rw c.in-Some.is at (c.in_ok-piece.ensures.next _ _ so.given) in
    let small : length piece ≤ 4096 = (rw c.in-Some.is at c.in_ok-piece.ensures.some).1 in
    let long = length-append so.bytes piece in
    (so.bytes, so.taken, so.so_far, omega (arith, long, small, so.room, given.few))

pub take-requires-clause-sink : goal.take-requires-clause-sink
take-requires-clause-sink g c = omega (arith, c.requires.sink, c.pieces.invariant.sink)

pub returns-in_err-goes_on : goal.returns-in_err-goes_on
returns-in_err-goes_on g c =
    let p = err_from_is_err_and c.from_residual-in_err-goes_on.result c.from_residual-in_err-goes_on.ensures.1 in
    let so = c.pieces.invariant in
    let piece : List ℕ = c.in-Some.piece.now in
    let given : Given (g.R.Source.log c.args.r.now) (g.R.Source.log c.next.new.r) (c.pieces.pieces.reads + 1) (so.bytes ++ piece) = rw c.in-Some.is at (c.in_ok-piece.ensures.next _ _ so.given) in
    let small : length piece ≤ 4096 = (rw c.in-Some.is at c.in_ok-piece.ensures.some).1 in
    let long = length-append so.bytes piece in
    let few : length (so.bytes ++ piece) < 18446744073709551616 = omega (arith, long, small, so.room, given.few) in
    rw (p.1, p.2) (piece_stopped c.pieces.explainer c.take.new.explainer c.args.form c.args.only c.args.set c.args.limit (c.pieces.pieces.reads + 1) _ _ _ _ _ so.bytes piece so.taken _ so.form so.only so.set so.limit given.gave
    (wrote_whole c.pieces.explainer c.args.form c.args.only c.args.set c.args.limit so.bytes so.taken _ _ so.form so.only so.set so.limit so.empty so.so_far so.wrote) so.wrote (c.in_err-goes_on.ensures.hands so.bytes so.taken so.so_far few))

pub returns-then-not-goes_on : goal.returns-then-not-goes_on
returns-then-not-goes_on g c =
    let so = c.pieces.invariant in
    let piece : List ℕ = c.in-Some.piece.now in
    let now : List ℕ = so.bytes ++ piece in
    let given : Given (g.R.Source.log c.args.r.now) (g.R.Source.log c.next.new.r) (c.pieces.pieces.reads + 1) now = rw c.in-Some.is at (c.in_ok-piece.ensures.next _ _ so.given) in
    let small : length piece ≤ 4096 = (rw c.in-Some.is at c.in_ok-piece.ensures.some).1 in
    let long = length-append so.bytes piece in
    let few : length now < 18446744073709551616 = omega (arith, long, small, so.room, given.few) in
    let h = c.in_ok-goes_on.ensures.hands so.bytes so.taken so.so_far few in
    let form = c.in_ok-goes_on.ensures.form ∙ so.form in
    let only = c.in_ok-goes_on.ensures.only ∙ so.only in
    let set = c.in_ok-goes_on.ensures.set ∙ so.set in
    let limit = c.in_ok-goes_on.ensures.limit ∙ so.limit in
    ended c.take.new.explainer c.args.form c.args.only c.args.set c.args.limit _ _ _ _ _ now (so.taken ++ h.text) c.end.result
    (record { form_is = form; only_is = only; set_is = set; limit_is = limit; empty = h.empty; so_far = h.so_far; wrote = wrote_more _ _ _ so.taken h.text so.wrote h.wrote })
    (inl (c.pieces.pieces.reads + 1, given.gave))
    (λ text lawful last. inr (c.pieces.pieces.reads + 1, now, given.gave, λ more. at_end c.take.new.explainer c.args.form c.args.only c.args.set c.args.limit (now ++ more) (so.taken ++ h.text) text lawful form only set limit last (h.stopped c.if-not-goes_on.true more)))
    c.end.ensures

pub end-requires : goal.end-requires
end-requires g c =
    let so = c.pieces.invariant in
    let piece : List ℕ = c.in-Some.piece.now in
    let given : Given (g.R.Source.log c.args.r.now) (g.R.Source.log c.next.new.r) (c.pieces.pieces.reads + 1) (so.bytes ++ piece) = rw c.in-Some.is at (c.in_ok-piece.ensures.next _ _ so.given) in
    let small : length piece ≤ 4096 = (rw c.in-Some.is at c.in_ok-piece.ensures.some).1 in
    let long = length-append so.bytes piece in
    let few : length (so.bytes ++ piece) < 18446744073709551616 = omega (arith, long, small, so.room, given.few) in
    let h = c.in_ok-goes_on.ensures.hands so.bytes so.taken so.so_far few in
    let same = same_failures _ _ _ h.wrote in
    omega (arith, c.requires.sink, so.sink, same)

pub end-requires-2 : goal.end-requires-2
end-requires-2 g c = omega (arith, c.requires.sink, c.pieces.invariant.sink)

pub pieces-preserved : goal.pieces-preserved
pieces-preserved g c =
    let so = c.pieces.invariant in
    let piece : List ℕ = c.in-Some.piece.now in
    let given : Given (g.R.Source.log c.args.r.now) (g.R.Source.log c.next.new.r) (c.pieces.pieces.reads + 1) (so.bytes ++ piece) = rw c.in-Some.is at (c.in_ok-piece.ensures.next _ _ so.given) in
    let small : length piece ≤ 4096 = (rw c.in-Some.is at c.in_ok-piece.ensures.some).1 in
    let long = length-append so.bytes piece in
    let few : length (so.bytes ++ piece) < 18446744073709551616 = omega (arith, long, small, so.room, given.few) in
    let h = c.in_ok-goes_on.ensures.hands so.bytes so.taken so.so_far few in
    let counted : c.next.follows.lender-at-none.reads ≡ c.pieces.pieces.reads + 1 = search rules in
    record {
      bytes = so.bytes ++ piece;
      taken = so.taken ++ h.text;
      given = search rules;
      so_far = h.so_far;
      empty = h.empty;
      wrote = wrote_more _ _ _ so.taken h.text so.wrote h.wrote;
      form = c.in_ok-goes_on.ensures.form ∙ so.form;
      only = c.in_ok-goes_on.ensures.only ∙ so.only;
      set = c.in_ok-goes_on.ensures.set ∙ so.set;
      limit = c.in_ok-goes_on.ensures.limit ∙ so.limit;
      room = omega (arith, long, small, so.room, counted);
      sink = same_failures _ _ _ h.wrote ∙ so.sink;
    }

pub returns : goal.returns
returns g c =
    let so = c.pieces.invariant in
    let all : ReadAll (g.R.Source.log c.args.r.now) (g.R.Source.log c.next.new.r) so.bytes = search rules in
    ended c.pieces.explainer c.args.form c.args.only c.args.set c.args.limit _ _ _ _ _ so.bytes so.taken c.end-2.result
    (record { form_is = so.form; only_is = so.only; set_is = so.set; limit_is = so.limit; empty = so.empty; so_far = so.so_far; wrote = so.wrote })
    (inr all)
    (λ text lawful last. inl (so.bytes, all, at_end c.pieces.explainer c.args.form c.args.only c.args.set c.args.limit so.bytes so.taken text lawful so.form so.only so.set so.limit last so.so_far)) c.end-2.ensures
