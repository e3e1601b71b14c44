use Rattle.std.proofs.Common.{◌≡◌, ◌≤◌, ◌<◌, List, ℕ, length, refl, ◌∙◌, arith}
use Rattle.std.proofs.lemmas.Result.{err_from_is_err_and}
use Rattle.llrp_listing.specs.declared.encode.buffer.EncodeBuffer.{EncodeBuffer}
use Rattle.llrp_listing.specs.Private.EncodeBuffer.{ClosedSoFar, Holds, inner}
use Rattle.llrp_listing.specs.Private.OpenNodes.{IsHeld, OpenNode}
use Rattle.llrp_listing.proofs.Zips.{zip_length}
use Rattle.llrp_listing.proofs.LineSteps.{left_shorter, so_far_more, so_far_none, stops_at}
use Rattle.llrp_listing.proofs.encode.buffer.EncodeBuffer.close_to.Goals as goal

-- as many lines as records
held_long : (writer : EncodeBuffer) (at : ℕ) (out more : List ℕ) (ns : List OpenNode) → Holds writer at out more ns → length (inner writer.rows) ≡ length ns
held_long writer at out more ns h = zip_length IsHeld (inner writer.rows) ns h.rows

above : (writer : EncodeBuffer) (at depth : ℕ) (out more : List ℕ) (ns : List OpenNode) → (s : ClosedSoFar writer at depth out more ns) → depth < length (inner writer.rows) → depth < length s.left
above writer at depth out more ns s lt = omega (arith, lt, held_long writer at out more s.left s.holds)

pub lines-init : goal.lines-init
lines-init c = record { closed = λ out more ns h. so_far_none c.args.self.now c.args.at c.args.depth out more ns h; limit = refl }

pub close_top-requires : goal.close_top-requires
close_top-requires c =
    let x = c.requires.some in
    let s = c.lines.invariant.closed x.0 x.1 x.2 x.3 in
    let lt = above c.lines.self c.args.at c.args.depth x.0 x.1 x.2 s (omega (arith, c.lines-test.true, c.depth.ensures)) in
    (x.0, x.1, s.left, s.holds, omega (arith, lt, c.requires.least))

pub lines-smaller : goal.lines-smaller
lines-smaller c =
    let x = c.requires.some in
    let s = c.lines.invariant.closed x.0 x.1 x.2 x.3 in
    let lt = above c.lines.self c.args.at c.args.depth x.0 x.1 x.2 s (omega (arith, c.lines-test.true, c.depth.ensures)) in
    left_shorter c.lines.self c.close_top.new.self c.args.at c.args.depth x.0 x.1 s.left c.in_ok-close_top.ensures.closed c.requires.least s.holds lt

pub lines-preserved : goal.lines-preserved
lines-preserved c = record {
  closed = λ out more ns h.
      let s = c.lines.invariant.closed out more ns h in
      so_far_more c.lines.self c.close_top.new.self c.args.at c.args.depth out more ns c.in_ok-close_top.ensures.closed c.requires.least s
      (above c.lines.self c.args.at c.args.depth out more ns s (omega (arith, c.lines-test.true, c.depth.ensures)));
  limit = c.in_ok-close_top.ensures.limit ∙ c.lines.invariant.limit;
}

pub returns-in_err-close_top-clause-stopped : goal.returns-in_err-close_top-clause-stopped
returns-in_err-close_top-clause-stopped c =
    let p = err_from_is_err_and c.from_residual.result c.from_residual.ensures.1 in
    rw (p.1, p.2) (λ limit out more ns h.
    let s = c.lines.invariant.closed out more ns h in
    stops_at c.lines.self c.args.at c.args.depth out more ns c.in_err-close_top.field-0.0 limit c.in_err-close_top.ensures.stopped c.requires.least s
    (above c.lines.self c.args.at c.args.depth out more ns s (omega (arith, c.lines-test.true, c.depth.ensures))))

pub returns-clause-closed : goal.returns-clause-closed
returns-clause-closed c = λ out more ns h.
    let s = c.lines.invariant.closed out more ns h in
    let few : length s.left ≤ c.args.depth = omega (arith, c.lines-test.false, c.depth.ensures, held_long c.lines.self c.args.at out more s.left s.holds) in
    record { left = s.left; holds = s.holds; closed = s.closed; are = λ le. (let a = s.are le in omega (arith, a, few)) }

pub returns-in_err-close_top-clause-front : goal.returns-in_err-close_top-clause-front
returns-in_err-close_top-clause-front c =
    let p = err_from_is_err_and c.from_residual.result c.from_residual.ensures.1 in
    rw p.1 (λ out more ns h.
    let s = c.lines.invariant.closed out more ns h in
    c.in_err-close_top.ensures.front out more s.left s.holds)
