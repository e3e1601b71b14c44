use Rattle.std.proofs.Common.{◌≡◌, ℕ, ◌≤◌, List, [], ◌++◌, sym, ap, ◌∙◌, arith, length-drop, length, drop}
use Rattle.std.proofs.lemmas.Result.{err_from_is_err_and}
use Rattle.llrp_tree.specs.OpenTree.{Begun}
use Rattle.llrp_stream.specs.Calls.Pieces.{BodyStands}
use Rattle.llrp_stream.proofs.PieceLemmas.{are_then, behind_then, stands_on, short_of}
use Rattle.llrp_stream.specs.declared.engine.body.Body.{Body}
use Rattle.llrp_stream.proofs.engine.body.Body.feed_piece.Goals as goal

behind_fresh : (begins stands : List Begun → Type 0) (old : Body) (front piece : List ℕ) → old.raw.items ≡ [] → BodyStands begins stands old front → length (front ++ piece) ≤ old.reader.octets → drop old.reader.at (front ++ piece) ≡ piece
behind_fresh begins stands old front piece e st le = behind_then begins stands old front piece st le ∙ ap (λ (x : List ℕ). x ++ piece) e

pub read-requires : goal.read-requires
read-requires g c =
    let w = c.requires.some in
    (w.0, w.1 ++ c.args.piece.now, are_then _ _ c.args.self.now w.1 c.args.piece.now w.2 w.3, behind_fresh _ _ c.args.self.now w.1 c.args.piece.now c.requires.fresh w.2 w.3)

pub returns-in_err-read : goal.returns-in_err-read
returns-in_err-read g c = λ was front st le.
    let p = err_from_is_err_and c.from_residual.result c.from_residual.ensures.1 in
    rw (p.1, p.2) (c.in_err-read.ensures was (front ++ c.args.piece.now) (are_then _ _ c.args.self.now front c.args.piece.now st le) (behind_fresh _ _ c.args.self.now front c.args.piece.now c.requires.fresh st le))

pub returns-then-read : goal.returns-then-read
returns-then-read g c = λ was front st le.
    (c.in_ok-read.ensures was (front ++ c.args.piece.now) (are_then _ _ c.args.self.now front c.args.piece.now st le) (behind_fresh _ _ c.args.self.now front c.args.piece.now c.requires.fresh st le)).1 c.if-read.true

pub split_at-requires : goal.split_at-requires
split_at-requires g c =
    let w = c.requires.some in
    let r = (c.in_ok-read.ensures w.0 (w.1 ++ c.args.piece.now) (are_then _ _ c.args.self.now w.1 c.args.piece.now w.2 w.3) (behind_fresh _ _ c.args.self.now w.1 c.args.piece.now c.requires.fresh w.2 w.3)).0 c.if-read.false in
    r.within

pub kept-left-requires : goal.kept-left-requires
kept-left-requires g c =
    let w = c.requires.some in
    let r = (c.in_ok-read.ensures w.0 (w.1 ++ c.args.piece.now) (are_then _ _ c.args.self.now w.1 c.args.piece.now w.2 w.3) (behind_fresh _ _ c.args.self.now w.1 c.args.piece.now c.requires.fresh w.2 w.3)).0 c.if-read.false in
    let l = ap (λ (x : List ℕ). length x) c.split_at.ensures.back in
    let m = length-drop c.in_ok-read.read.used c.args.piece.now in
    omega (arith, r.left)

pub returns : goal.returns
returns g c = λ was front st le.
    let d = behind_fresh _ _ c.args.self.now front c.args.piece.now c.requires.fresh st le in
    let r = (c.in_ok-read.ensures was (front ++ c.args.piece.now) (are_then _ _ c.args.self.now front c.args.piece.now st le) d).0 c.if-read.false in
    let raw : c.kept-left.result.items ≡ drop c.in_ok-read.read.used c.args.piece.now = c.kept-left.ensures ∙ c.split_at.ensures.back in
    let short = short_of _ _ c.args.self.now front c.args.piece.now c.args.piece.now st (ap (λ (x : List ℕ). x ++ c.args.piece.now) (sym c.requires.fresh)) r.short in
    (stands_on _ _ c.args.self.now.reader c.read.new.self (front ++ c.args.piece.now) c.args.piece.now c.in_ok-read.read.used c.kept-left.result d r raw short, r.same, r.set)
