use Rattle.std.proofs.Common.{◌≡◌, ◌≤◌, ◌++◌, ◌∙◌, ap, arith, length, length-append, subst, List, ℕ}
use Rattle.tag_uri.specs.Room.{HasText}
use Rattle.tag_uri.proofs.WritingLemmas.{two_texts}
use Rattle.llrp_c.specs.Status.{status_name}
use Rattle.llrp_c.proofs.StatusLemmas.{short_name}
use Rattle.llrp_c.proofs.names.put_name.Goals as goal

pub put_at-inner_at-requires : goal.put_at-inner_at-requires
put_at-inner_at-requires c =
    let both = ap (λ (x : List ℕ). length x) c.names.ensures in
    omega (arith, c.requires, short_name c.args.status, both, length-append c.names.result.0.now c.names.result.1.now)

pub put_at-requires : goal.put_at-requires
put_at-requires c =
    let both = ap (λ (x : List ℕ). length x) c.names.ensures in
    omega (arith, c.requires, short_name c.args.status, both, length-append c.names.result.0.now c.names.result.1.now, c.put_at-inner_at.ensures.ends, c.put_at-inner_at.auto.room)

pub returns : goal.returns
returns c =
    let both = ap (λ (x : List ℕ). length x) c.names.ensures in
    let within : c.put_at.result ≤ length c.args.room.now = omega (arith, c.requires, short_name c.args.status, both, length-append c.names.result.0.now c.names.result.1.now, c.put_at-inner_at.ensures.ends, c.put_at.ensures.ends) in
    let same : c.as_bytes.result.now ++ c.as_bytes-2.result.now ≡ status_name c.args.status =
    ap (λ (x : List ℕ). x ++ c.as_bytes-2.result.now) c.as_bytes.ensures.value ∙ ap (λ (x : List ℕ). c.names.result.0.now ++ x) c.as_bytes-2.ensures.value ∙ c.names.ensures in
    subst (λ (text : List ℕ). HasText c.args.room.now c.put_at.new.room 0 c.put_at.result text) same
    (two_texts 0 c.put_at-inner_at.result c.put_at.result c.args.room.now c.put_at-inner_at.new.room c.put_at.new.room c.as_bytes.result.now c.as_bytes-2.result.now within c.put_at-inner_at.ensures c.put_at.ensures)
