use Rattle.std.proofs.Common.{◌≡◌, ◌≤◌, ◌∷◌, [], ℕ, List, length, arith, subst}
use Rattle.std.specs.Prelude.{IfErr, OnErr, OnOk, Result, Ok, Err}
use Rattle.std.proofs.lemmas.Result.{err_from_is_err_and}
use Rattle.llrp_listing.proofs.Zips.{zip_length}
use Rattle.llrp_listing.specs.declared.encode.buffer.Refused.{Refused}
use Rattle.llrp_listing.specs.declared.encode.buffer.EncodeBuffer.{EncodeBuffer}
use Rattle.llrp_listing.specs.Private.EncodeBuffer.{ClosedAll, Fails, Holds, inner}
use Rattle.llrp_listing.specs.Private.OpenNodes.{IsHeld, OpenNode}
use Rattle.llrp_listing.proofs.Beginning.{all_closed_later, all_closed_none, fails_later, fails_lower, front_later, one_left}
use Rattle.llrp_listing.proofs.encode.buffer.EncodeBuffer.close_all.Goals as goal

held_long : (writer : EncodeBuffer) (at : ℕ) (out more : List ℕ) (ns : List OpenNode) → Holds writer at out more ns → length (inner writer.rows) ≡ length ns
held_long writer at out more ns h = zip_length IsHeld (inner writer.rows) ns h.rows

pub returns-then-depth-eq0-clause-closed : goal.returns-then-depth-eq0-clause-closed
returns-then-depth-eq0-clause-closed c = λ out more ns h.
    all_closed_none c.args.self.now.limit c.args.self.now c.args.at out more ns h (omega (arith, held_long c.args.self.now c.args.at out more ns h, c.depth.ensures, c.if-depth-eq0.true))

pub returns-in_err-close_to-clause-stopped : goal.returns-in_err-close_to-clause-stopped
returns-in_err-close_to-clause-stopped c =
    let p = err_from_is_err_and c.from_residual.result c.from_residual.ensures.1 in
    rw (p.1, p.2) (λ out more ns h. fails_lower c.args.self.now.limit 1 ns c.in_err-close_to.field-0.0 (c.in_err-close_to.ensures.stopped c.args.self.now.limit out more ns h))

some_open : (writer : EncodeBuffer) (at depth : ℕ) (out more : List ℕ) (ns : List OpenNode) → Holds writer at out more ns → depth ≡ length (inner writer.rows) → (depth ≡ 0 → ⊥) → 1 ≤ length ns
some_open writer at depth out more ns h d e = omega (arith, held_long writer at out more ns h, d, e)

pub close_message-requires : goal.close_message-requires
close_message-requires c =
    let x = c.requires in
    one_left c.close_to.new.self c.args.at x.0 x.1 x.2 (c.in_ok-close_to.ensures.closed x.0 x.1 x.2 x.3) (some_open c.args.self.now c.args.at c.depth.result x.0 x.1 x.2 x.3 c.depth.ensures c.if-depth-eq0.false)

all_ok : {T : Type 0} (r : Result T Refused) (a b : Type 0) → OnOk r a → (a → b) → OnOk r b
all_ok (Ok u) a b h f = f h
all_ok (Err e) a b h f = tt

all_err : {T : Type 0} (r : Result T Refused) (a b : Refused → Type 0) → IfErr r a → ((e : Refused) → a e → b e) → IfErr r b
all_err (Ok u) a b h f = tt
all_err (Err e) a b h f = f e h

pub returns-clause-closed : goal.returns-clause-closed
returns-clause-closed c =
    let old = c.args.self.now in
    let mid = c.close_to.new.self in
    let new = c.close_message.new.self in
    all_ok c.close_message.result _ _ c.close_message.ensures.closed (λ m out more ns h.
    all_closed_later old.limit mid new c.args.at out more ns (c.in_ok-close_to.ensures.closed out more ns h) (some_open old c.args.at c.depth.result out more ns h c.depth.ensures c.if-depth-eq0.false)
    (λ n g. subst (λ (l : ℕ). ClosedAll l new c.args.at out more (n ∷ [])) c.in_ok-close_to.ensures.limit (m out more n g)))

pub returns-clause-stopped : goal.returns-clause-stopped
returns-clause-stopped c =
    let old = c.args.self.now in
    let mid = c.close_to.new.self in
    all_err c.close_message.result _ _ c.close_message.ensures.stopped (λ e m out more ns h.
    fails_later old.limit mid c.args.at out more ns e (c.in_ok-close_to.ensures.closed out more ns h) (some_open old c.args.at c.depth.result out more ns h c.depth.ensures c.if-depth-eq0.false)
    (λ n g. subst (λ (l : ℕ). Fails l 0 (n ∷ []) e) c.in_ok-close_to.ensures.limit (m out more n g)))

on_err : {T : Type 0} (r : Result T Refused) (a b : Type 0) → OnErr r a → (a → b) → OnErr r b
on_err (Ok u) a b h f = tt
on_err (Err e) a b h f = f h

pub returns-clause-front : goal.returns-clause-front
returns-clause-front c =
    on_err c.close_message.result _ _ c.close_message.ensures.front (λ m out more ns h.
    front_later c.close_to.new.self c.close_message.new.self c.args.at out more ns (c.in_ok-close_to.ensures.closed out more ns h) m)
