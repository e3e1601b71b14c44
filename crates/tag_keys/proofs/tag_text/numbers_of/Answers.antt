use Rattle.std.proofs.Common.{◌≡◌, ◌+◌, length, subst, arith}
use Rattle.std.specs.Str.{IsCharBoundary}
use Rattle.tag_keys.proofs.PieceLemmas.{behind_name}
use Rattle.tag_keys.proofs.tag_text.numbers_of.Goals as goal

pub range_from-requires : goal.range_from-requires
range_from-requires c =
    let name = c.name.ensures in
    let b = behind_name c.args.text.now _ c.requires.0 c.requires.1 c.utf8.text in
    let here : 12 + length c.name.result.now + 1 ≡ 13 + length c.name.result.now = omega arith in
    λ some. subst (IsCharBoundary c.args.text.now) here (rw (← name) at b)
