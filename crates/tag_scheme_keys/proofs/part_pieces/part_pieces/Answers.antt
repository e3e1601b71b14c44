use Rattle.std.proofs.Common.{◌≡◌, ◌∷◌, ◌++◌}
use Rattle.std.specs.Prelude.{slice_index, List, ℕ}
use Rattle.std.specs.Borrow.{Bor}
use Rattle.tag_scheme_keys.specs.KeyFaults.{serial_mark}
use Rattle.tag_scheme_keys.proofs.PartPieces.{if_some, after_mark}
use Rattle.tag_scheme_keys.proofs.part_pieces.part_pieces.Goals as goal

pub returns-in-None-clause-none : goal.returns-in-None-clause-none
returns-in-None-clause-none c = λ serial number whole.
    let cut = if_some (λ (x : Bor (List ℕ)). c.args.rest.now ≡ c.cut_at_mark.result.0.now ++ slice_index (serial_mark c.args.spelling) 0 ∷ x.now) c.cut_at_mark.result.1 c.in-Some.after c.in-Some.is c.cut_at_mark.ensures.some in
    c.in-None.ensures.none serial number (after_mark c.args.spelling c.args.rest.now c.cut_at_mark.result.0.now c.in-Some.after.now serial c.cut_at_mark.ensures.front cut whole)
