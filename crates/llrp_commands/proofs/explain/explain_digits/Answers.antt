use Rattle.std.proofs.Common.{◌≡◌, ◌∙◌, ◌+◌, ◌<◌, ◌++◌, ◌≤◌, rules, arith, List, ℕ, [], Option, None, Some, true, false, refl, sym, subst, inl, inr, length, length-append}
use Rattle.std.proofs.lemmas.Result.{err_from_is_err_and}
use Rattle.std.specs.Option.{is_some}
use Rattle.llrp_listing.specs.Calls.Copying.{Given}
use Rattle.llrp_listing.specs.Copying.{ReadAll}
use Rattle.llrp_stream.proofs.WritingLemmas.{same_failures, wrote_more, wrote_nothing}
use Rattle.llrp_commands.specs.Calls.Digits.{SpellsFront}
use Rattle.llrp_commands.proofs.DigitLemmas.{spelled_all, spelled_whole}
use Rattle.llrp_commands.proofs.ExplainDigits.{digits_ended, digits_stopped, no_digits_came}
use Rattle.llrp_commands.proofs.ExplainRuns.{at_end, wrote_whole}
use Rattle.llrp_commands.proofs.explain.explain_digits.Goals as goal

pub pieces-init : goal.pieces-init
pieces-init g c = record {
  read = [];
  octets = [];
  taken = [];
  given = search rules;
  spells = c.new-digits.ensures;
  so_far = record {
    form_is = c.new_only-explainer.ensures.form;
    only_is = c.new_only-explainer.ensures.only;
    set_is = c.new_only-explainer.ensures.set;
    limit_is = c.new_only-explainer.ensures.limit;
    empty = c.new_only-explainer.ensures.text;
    so_far = c.new_only-explainer.ensures.so_far;
    wrote = wrote_nothing (g.W.Sink.log c.args.w.now);
  };
  room = omega arith;
  sink = refl;
}

pub returns-in_err-piece : goal.returns-in_err-piece
returns-in_err-piece g c =
    let p = err_from_is_err_and c.from_residual.result c.from_residual.ensures.1 in
    let so = c.pieces.invariant in
    let a = so.so_far in
    rw (p.1, p.2) (no_digits_came c.args.form c.args.only c.args.set c.args.limit _ _ _ _ so.read so.octets c.pieces.digits.half _ (c.in_err-piece.ensures.next _ _ so.given) so.spells
    (wrote_whole c.pieces.explainer c.args.form c.args.only c.args.set c.args.limit so.octets so.taken _ _ a.form_is a.only_is a.set_is a.limit_is a.empty a.so_far a.wrote))

pub take_digits-requires-clause-least : goal.take_digits-requires-clause-least
take_digits-requires-clause-least g c = omega (arith, c.pieces.invariant.so_far.limit_is, c.requires.least)

pub take_digits-requires-clause-most : goal.take_digits-requires-clause-most
take_digits-requires-clause-most g c = omega (arith, c.pieces.invariant.so_far.limit_is, c.requires.most)

pub take_digits-requires-clause-some : goal.take_digits-requires-clause-some
take_digits-requires-clause-some g c =
    let so = c.pieces.invariant in
    let piece : List ℕ = c.in-Some.piece.now in
    let given : Given (g.R.Source.log c.args.r.now) (g.R.Source.log c.next.new.r) (c.pieces.pieces.reads + 1) (so.read ++ piece) = rw c.in-Some.is at (c.in_ok-piece.ensures.next _ _ so.given) in
    let small : length piece ≤ 4096 = (rw c.in-Some.is at c.in_ok-piece.ensures.some).1 in
    let long = length-append so.read piece in
    (so.read, so.octets, so.taken, so.spells, so.so_far.so_far, omega (arith, long, small, so.room, given.few))

pub take_digits-requires-clause-sink : goal.take_digits-requires-clause-sink
take_digits-requires-clause-sink g c = omega (arith, c.requires.sink, c.pieces.invariant.sink)

pub returns-in_err-goes_on : goal.returns-in_err-goes_on
returns-in_err-goes_on g c =
    let p = err_from_is_err_and c.from_residual-in_err-goes_on.result c.from_residual-in_err-goes_on.ensures.1 in
    let so = c.pieces.invariant in
    let piece : List ℕ = c.in-Some.piece.now in
    let given : Given (g.R.Source.log c.args.r.now) (g.R.Source.log c.next.new.r) (c.pieces.pieces.reads + 1) (so.read ++ piece) = rw c.in-Some.is at (c.in_ok-piece.ensures.next _ _ so.given) in
    let small : length piece ≤ 4096 = (rw c.in-Some.is at c.in_ok-piece.ensures.some).1 in
    let long = length-append so.read piece in
    let few : length (so.read ++ piece) < 18446744073709551616 = omega (arith, long, small, so.room, given.few) in
    let e = c.in_err-goes_on.ensures in
    rw (p.1, p.2) (digits_stopped c.pieces.explainer c.take_digits.new.explainer c.args.form c.args.only c.args.set c.args.limit (c.pieces.pieces.reads + 1) _ _ _ _ _ so.read piece so.octets so.taken c.pieces.digits.half c.take_digits.new.digits.half _ so.so_far e.form e.only e.set e.limit given.gave so.spells (e.hands so.read so.octets so.taken so.spells so.so_far.so_far few))

pub returns-then-not-goes_on : goal.returns-then-not-goes_on
returns-then-not-goes_on g c =
    let so = c.pieces.invariant in
    let a = so.so_far in
    let piece : List ℕ = c.in-Some.piece.now in
    let given : Given (g.R.Source.log c.args.r.now) (g.R.Source.log c.next.new.r) (c.pieces.pieces.reads + 1) (so.read ++ piece) = rw c.in-Some.is at (c.in_ok-piece.ensures.next _ _ so.given) in
    let small : length piece ≤ 4096 = (rw c.in-Some.is at c.in_ok-piece.ensures.some).1 in
    let long = length-append so.read piece in
    let few : length (so.read ++ piece) < 18446744073709551616 = omega (arith, long, small, so.room, given.few) in
    let e = c.in_ok-goes_on.ensures in
    let all = e.hands so.read so.octets so.taken so.spells a.so_far few in
    let now : List ℕ = all.0 in
    let h = all.3 in
    digits_ended c.take_digits.new.explainer c.args.form c.args.only c.args.set c.args.limit _ _ _ _ _ (so.read ++ piece) now (so.taken ++ h.text) c.take_digits.new.digits.half all.1 c.end.result
    (record { form_is = e.form ∙ a.form_is; only_is = e.only ∙ a.only_is; set_is = e.set ∙ a.set_is; limit_is = e.limit ∙ a.limit_is; empty = h.empty; so_far = h.so_far; wrote = wrote_more _ _ _ so.taken h.text a.wrote h.wrote })
    (inl (c.pieces.pieces.reads + 1, given.gave))
    all.2
    (λ text lawful last. inr (
      c.pieces.pieces.reads + 1,
      so.read ++ piece,
      now,
      c.take_digits.new.digits.half,
      all.1,
      given.gave,
      all.2,
      λ more. at_end c.take_digits.new.explainer c.args.form c.args.only c.args.set c.args.limit (now ++ more) (so.taken ++ h.text) text lawful (e.form ∙ a.form_is) (e.only ∙ a.only_is) (e.set ∙ a.set_is) (e.limit ∙ a.limit_is) last (h.stopped c.if-not-goes_on.true more),
    ))
    c.end.ensures

pub end-requires : goal.end-requires
end-requires g c =
    let so = c.pieces.invariant in
    let piece : List ℕ = c.in-Some.piece.now in
    let given : Given (g.R.Source.log c.args.r.now) (g.R.Source.log c.next.new.r) (c.pieces.pieces.reads + 1) (so.read ++ piece) = rw c.in-Some.is at (c.in_ok-piece.ensures.next _ _ so.given) in
    let small : length piece ≤ 4096 = (rw c.in-Some.is at c.in_ok-piece.ensures.some).1 in
    let long = length-append so.read piece in
    let few : length (so.read ++ piece) < 18446744073709551616 = omega (arith, long, small, so.room, given.few) in
    let h = (c.in_ok-goes_on.ensures.hands so.read so.octets so.taken so.spells so.so_far.so_far few).3 in
    let same = same_failures _ _ _ h.wrote in
    omega (arith, c.requires.sink, so.sink, same)

pub end-requires-2 : goal.end-requires-2
end-requires-2 g c = omega (arith, c.requires.sink, c.pieces.invariant.sink)

pub pieces-preserved : goal.pieces-preserved
pieces-preserved g c =
    let so = c.pieces.invariant in
    let a = so.so_far in
    let piece : List ℕ = c.in-Some.piece.now in
    let given : Given (g.R.Source.log c.args.r.now) (g.R.Source.log c.next.new.r) (c.pieces.pieces.reads + 1) (so.read ++ piece) = rw c.in-Some.is at (c.in_ok-piece.ensures.next _ _ so.given) in
    let small : length piece ≤ 4096 = (rw c.in-Some.is at c.in_ok-piece.ensures.some).1 in
    let long = length-append so.read piece in
    let few : length (so.read ++ piece) < 18446744073709551616 = omega (arith, long, small, so.room, given.few) in
    let e = c.in_ok-goes_on.ensures in
    let all = e.hands so.read so.octets so.taken so.spells a.so_far few in
    let h = all.3 in
    let right : all.1 ≡ true = all.4 c.if-not-goes_on.false in
    let counted : c.next.follows.lender-at-none.reads ≡ c.pieces.pieces.reads + 1 = search rules in
    record {
      read = so.read ++ piece;
      octets = all.0;
      taken = so.taken ++ h.text;
      given = search rules;
      spells = spelled_all (so.read ++ piece) all.0 c.take_digits.new.digits.half (rw right at all.2);
      so_far = record { form_is = e.form ∙ a.form_is; only_is = e.only ∙ a.only_is; set_is = e.set ∙ a.set_is; limit_is = e.limit ∙ a.limit_is; empty = h.empty; so_far = h.so_far; wrote = wrote_more _ _ _ so.taken h.text a.wrote h.wrote };
      room = omega (arith, long, small, so.room, counted);
      sink = same_failures _ _ _ h.wrote ∙ so.sink;
    }

-- a first digit has no second
odd : (half : Option ℕ) → is_some half ≡ true → (high : ℕ) × (half ≡ Some high)
odd None e = absurd cc
odd (Some high) e = (high, refl)

-- each digit has its other
even : (half : Option ℕ) → is_some half ≡ false → half ≡ None
even None e = refl
even (Some high) e = absurd cc

pub returns-then-is_odd : goal.returns-then-is_odd
returns-then-is_odd g c =
    let so = c.pieces.invariant in
    let a = so.so_far in
    let all : ReadAll (g.R.Source.log c.args.r.now) (g.R.Source.log c.next.new.r) so.read = search rules in
    let half = odd c.pieces.digits.half (sym c.is_odd.ensures ∙ c.if-is_odd.true) in (
      so.octets,
      inr (so.read, half.0, all, subst (λ (x : Option ℕ). SpellsFront so.read so.octets x) half.1 so.spells),
      wrote_whole c.pieces.explainer c.args.form c.args.only c.args.set c.args.limit so.octets so.taken _ _ a.form_is a.only_is a.set_is a.limit_is a.empty a.so_far a.wrote,
    )

pub returns : goal.returns
returns g c =
    let so = c.pieces.invariant in
    let a = so.so_far in
    let all : ReadAll (g.R.Source.log c.args.r.now) (g.R.Source.log c.next.new.r) so.read = search rules in
    let whole : SpellsFront so.read so.octets None = subst (λ (x : Option ℕ). SpellsFront so.read so.octets x) (even c.pieces.digits.half (sym c.is_odd.ensures ∙ c.if-is_odd.false)) so.spells in
    digits_ended c.pieces.explainer c.args.form c.args.only c.args.set c.args.limit _ _ _ _ _ so.read so.octets so.taken c.pieces.digits.half true c.end-2.result a (inr all) (spelled_whole so.read so.octets c.pieces.digits.half so.spells)
    (λ text lawful last. inl (so.read, so.octets, all, whole, at_end c.pieces.explainer c.args.form c.args.only c.args.set c.args.limit so.octets so.taken text lawful a.form_is a.only_is a.set_is a.limit_is last a.so_far)) c.end-2.ensures
