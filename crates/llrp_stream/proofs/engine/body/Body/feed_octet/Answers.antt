use Rattle.std.proofs.Common.{◌≡◌, ℕ, List, [], ◌∷◌, ◌++◌, sym, ap, ◌∙◌, arith, length, drop}
use Rattle.std.proofs.lemmas.Result.{err_from_is_err_and}
use Rattle.llrp_stream.proofs.PieceLemmas.{are_then, behind_then, stands_on, short_of}
use Rattle.llrp_stream.proofs.engine.body.Body.feed_octet.Goals as goal

pub read-requires : goal.read-requires
read-requires g c =
    let w = c.requires.some in
    let piece : List ℕ = c.args.octet ∷ [] in
    (w.0, w.1 ++ piece, are_then _ _ c.args.self.now w.1 piece w.2 w.3, behind_then _ _ c.args.self.now w.1 piece w.2 w.3 ∙ sym (c.as_slice.ensures.value ∙ c.push.ensures.items))

pub returns-in_err-read : goal.returns-in_err-read
returns-in_err-read g c = λ was front st le.
    let piece : List ℕ = c.args.octet ∷ [] in
    let p = err_from_is_err_and c.from_residual.result c.from_residual.ensures.1 in
    rw (p.1, p.2) (c.in_err-read.ensures was (front ++ piece) (are_then _ _ c.args.self.now front piece st le) (behind_then _ _ c.args.self.now front piece st le ∙ sym (c.as_slice.ensures.value ∙ c.push.ensures.items)))

pub returns-then-read : goal.returns-then-read
returns-then-read g c = λ was front st le.
    let piece : List ℕ = c.args.octet ∷ [] in
    (c.in_ok-read.ensures was (front ++ piece) (are_then _ _ c.args.self.now front piece st le) (behind_then _ _ c.args.self.now front piece st le ∙ sym (c.as_slice.ensures.value ∙ c.push.ensures.items))).1 c.if-read.true

pub split_at-requires : goal.split_at-requires
split_at-requires g c =
    let w = c.requires.some in
    let piece : List ℕ = c.args.octet ∷ [] in
    let r = (c.in_ok-read.ensures w.0 (w.1 ++ piece) (are_then _ _ c.args.self.now w.1 piece w.2 w.3) (behind_then _ _ c.args.self.now w.1 piece w.2 w.3 ∙ sym (c.as_slice.ensures.value ∙ c.push.ensures.items))).0 c.if-read.false in
    let same = ap (λ (x : List ℕ). length x) (c.as_slice-2.ensures.value ∙ sym c.as_slice.ensures.value) in
    omega (arith, r.within)

pub returns : goal.returns
returns g c = λ was front st le.
    let piece : List ℕ = c.args.octet ∷ [] in
    let d = behind_then _ _ c.args.self.now front piece st le ∙ sym (c.as_slice.ensures.value ∙ c.push.ensures.items) in
    let r = (c.in_ok-read.ensures was (front ++ piece) (are_then _ _ c.args.self.now front piece st le) d).0 c.if-read.false in
    let raw : c.kept-left.result.items ≡ drop c.in_ok-read.read.used c.as_slice.result.now = c.kept-left.ensures ∙ (c.split_at.ensures.back ∙ ap (λ (x : List ℕ). drop c.in_ok-read.read.used x) (c.as_slice-2.ensures.value ∙ sym c.as_slice.ensures.value)) in
    let short = short_of _ _ c.args.self.now front piece c.as_slice.result.now st (c.as_slice.ensures.value ∙ c.push.ensures.items) r.short in
    (stands_on _ _ c.args.self.now.reader c.read.new.self (front ++ piece) c.as_slice.result.now c.in_ok-read.read.used c.kept-left.result d r raw short, r.same, r.set)
