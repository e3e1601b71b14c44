use Rattle.std.proofs.Common.{◌≡◌, ◌<◌, ◌++◌, ℕ, List, Bool, Option, true, arith, length, subst, sym}
use Rattle.std.proofs.lemmas.Result.{err_from_is_err_and}
use Rattle.llrp_commands.specs.Calls.Digits.{Spells}
use Rattle.llrp_commands.specs.Private.Explain.{Handed}
use Rattle.llrp_commands.proofs.DigitLemmas.{spelled_long}
use Rattle.llrp_commands.proofs.ExplainDigits.{undigested}
use Rattle.llrp_commands.proofs.explain.take_digits.Goals as goal
use Rattle.llrp_commands.proofs.explain.take_digits.Goals.{else-goes_on-via-then-goes_on+else-not-right, else-goes_on-via-else-goes_on}

-- the octets that a piece gave, by their other name
given : (digits octets more now : List ℕ) (half : Option ℕ) (right : Bool) → now ≡ more → Spells digits (octets ++ more) half right → length digits < 18446744073709551616 → Spells digits (octets ++ now) half right × (length (octets ++ now) < 18446744073709551616)
given digits octets more now half right same s room =
    let here : Spells digits (octets ++ now) half right = subst (λ (x : List ℕ). Spells digits (octets ++ x) half right) (sym same) s in
    let few = spelled_long digits (octets ++ now) half right here in
    (here, omega (arith, few, room))

pub take-requires-clause-some : goal.take-requires-clause-some
take-requires-clause-some g c =
    let w = c.requires.some in
    let s = given (w.0 ++ c.args.piece.now) w.1 c.feed.new.self.octets.items c.octets.result.now c.feed.new.self.half c.in_ok-right.right c.octets.ensures (c.in_ok-right.ensures w.0 w.1 w.3) w.5 in
    (w.1, w.2, w.4, s.1)

pub returns-in_err-goes_on-clause-hands : goal.returns-in_err-goes_on-clause-hands
returns-in_err-goes_on-clause-hands g c = λ read octets taken spells so_far room.
    let p = err_from_is_err_and c.from_residual-in_err-goes_on.result c.from_residual-in_err-goes_on.ensures.1 in
    let s = given (read ++ c.args.piece.now) octets c.feed.new.self.octets.items c.octets.result.now c.feed.new.self.half c.in_ok-right.right c.octets.ensures (c.in_ok-right.ensures read octets spells) room in
    rw (p.1, p.2) (undigested c.args.explainer.now c.take.new.explainer c.feed.new.self.half c.in_ok-right.right (read ++ c.args.piece.now) (octets ++ c.octets.result.now) taken _ _ _ s.0 (c.in_err-goes_on.ensures.hands octets taken so_far s.1))

pub returns-then-not-right-clause-hands : goal.returns-then-not-right-clause-hands
returns-then-not-right-clause-hands g c = λ read octets taken spells so_far room.
    let s = given (read ++ c.args.piece.now) octets c.feed.new.self.octets.items c.octets.result.now c.feed.new.self.half c.in_ok-right.right c.octets.ensures (c.in_ok-right.ensures read octets spells) room in
    let h = c.in_ok-goes_on.ensures.hands octets taken so_far s.1 in (
      octets ++ c.octets.result.now,
      subst (λ (b : Bool). Spells (read ++ c.args.piece.now) (octets ++ c.octets.result.now) c.feed.new.self.half b) c.if-not-right.true s.0,
      subst (λ (b : Bool). Handed c.take.new.explainer (octets ++ c.octets.result.now) taken (g.W.Sink.log c.args.w.now) (g.W.Sink.log c.take.new.w) b) c.if-goes_on.true h,
    )

pub returns-clause-hands : goal.returns-clause-hands
returns-clause-hands g c = λ read octets taken spells so_far room.
    let s = given (read ++ c.args.piece.now) octets c.feed.new.self.octets.items c.octets.result.now c.feed.new.self.half c.in_ok-right.right c.octets.ensures (c.in_ok-right.ensures read octets spells) room in
    let right : c.in_ok-goes_on.goes_on ≡ true → c.in_ok-right.right ≡ true = elim c.else-goes_on.branch [
      | else-goes_on-via-then-goes_on+else-not-right w ↦ λ e. w.if-not-right.false
      | else-goes_on-via-else-goes_on w ↦ λ e. (let no = w.if-goes_on.false in cc)
    ] in (octets ++ c.octets.result.now, c.in_ok-right.right, s.0, c.in_ok-goes_on.ensures.hands octets taken so_far s.1, right)
