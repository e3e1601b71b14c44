use Rattle.std.proofs.Common.{ℕ, List, ◌++◌, ◌∙◌, ap, arith}
use Rattle.llrp_listing.proofs.Fronts.{cut_after, cut_within}
use Rattle.llrp_listing.proofs.encode.line_octets.append_front.Goals as goal

pub returns : goal.returns
returns c =
    let upper = c.in_ok-extend_from_slice.ensures.items ∙ ap (λ (z : List ℕ). c.args.room.now.items ++ z) c.to_be_bytes.ensures in
    let lower = c.in_ok-extend_from_slice-2.ensures.items ∙ ap (λ (z : List ℕ). c.extend_from_slice.new.self.items ++ z) c.to_be_bytes-2.ensures in
    cut_after c.args.front.now.count _ c.args.room.now.items c.extend_from_slice.new.self.items c.extend_from_slice-2.new.self.items _ _ _ upper lower (omega (arith, c.len.ensures, c.args.room.now.ok)) c.truncate-2.ensures.items

pub returns-then-front-le8 : goal.returns-then-front-le8
returns-then-front-le8 c =
    let upper = c.in_ok-extend_from_slice.ensures.items ∙ ap (λ (z : List ℕ). c.args.room.now.items ++ z) c.to_be_bytes.ensures in
    cut_within c.args.front.now.count _ c.args.room.now.items c.extend_from_slice.new.self.items _ _ _ upper (omega (arith, c.len.ensures, c.args.room.now.ok)) c.truncate.ensures.items c.if-front-le8.true
