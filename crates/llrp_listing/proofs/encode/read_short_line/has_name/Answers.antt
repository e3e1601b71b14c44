use Rattle.std.proofs.Common.{◌≡◌, ◌+◌, ◌-◌, ◌≤◌, ℕ, List, ap, arith, drop, length, sym, take, ◌∙◌}
use Rattle.std.specs.Prelude.{IsTrue, nat_le}
use Rattle.std.proofs.lemmas.List.{drop-take, length-take, take-take}
use Rattle.llrp_listing.proofs.encode.read_short_line.has_name.Goals as goal

-- a line at the front of a text
same_front : (line text : List ℕ) (count : ℕ) → take (length line) text ≡ line → 2 + count ≤ length line → take count (drop 2 line) ≡ take count (drop 2 text)
same_front line text count e le =
    let left = length line - 2 in
    let whole : 2 + left ≡ length line = omega (arith, le) in
    ap (λ (z : List ℕ). take count (drop 2 z)) (sym e ∙ ap (λ (n : ℕ). take n text) (sym whole)) ∙ ap (take count) (drop-take 2 left text) ∙ take-take count left (drop 2 text) (omega (arith, le))

-- as many are alike as the name has
enough : (count alike : ℕ) → IsTrue (nat_le count alike) → count ≤ alike
enough count alike h = grind (arith, h)

pub octets_alike-requires-clause-row : goal.octets_alike-requires-clause-row
octets_alike-requires-clause-row c = omega (arith, ap length c.first_octets-2.ensures, length-take 32 c.args.label.now.text)

pub returns : goal.returns
returns c = λ alike.
    let label = c.args.label.now in
    let count = label.octets in
    same_front c.args.line.now c.args.text.now count c.requires.line c.requires.long
    ∙ sym (ap (take count) c.split_at-2.ensures.back)
    ∙ c.octets_alike.ensures count (enough count c.octets_alike.result alike)
    ∙ ap (take count) c.first_octets-2.ensures
    ∙ take-take count 32 label.text (omega (arith, c.if-octets-gt32.false))
