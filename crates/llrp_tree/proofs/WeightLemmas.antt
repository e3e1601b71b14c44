-- What is held weighs no more than its octets.
use Rattle.std.proofs.Common.{◌≡◌, ℕ, ◌+◌, ◌≤◌, true, false, List, [], ◌∷◌, length, refl, arith}
use Rattle.std.proofs.lemmas.List.Sums.{sum_by-cons}
use Rattle.llrp_schema.specs.declared.kinds.ParamKind.{ParamKind}
use Rattle.llrp_schema.specs.declared.kinds.Kind.TheVariants.{Parameter}
use Rattle.llrp_schema.specs.Schema.{FieldRule, bits_of, fields_of, is_tv}
use Rattle.llrp_schema.proofs.TableLaws.{tv_field, whole_octets}
use Rattle.llrp_tree.specs.Tree.{Forest, none, and, MessageTree}
use Rattle.llrp_tree.specs.Lawful.{octets, head_octets, body_octets}
use Rattle.llrp_tree.specs.Frame.{Frame}
use Rattle.llrp_tree.specs.Weight.{weight}
use Rattle.llrp_tree.specs.Calls.Weight.{message_weight}
use Rattle.llrp_tree.proofs.LengthLemmas.{frame_length}
use Rattle.llrp_tree.proofs.Leading.{AreRules}
use Rattle.llrp_tree.proofs.WholeNodes.{are_rules}

some_bits : (rules : List FieldRule) (r : FieldRule) → rules ≡ r ∷ [] → AreRules rules → 1 ≤ bits_of rules
some_bits [] r e t = absurd cc
some_bits (q ∷ rules) r e t = let a = sum_by-cons (λ (x : FieldRule). x.width) q rules in omega (arith, a, t.0)

-- a parameter's own octets are more than two and its tail
pub own_octets : (k : ParamKind) (tail : List ℕ) → 2 + length tail ≤ head_octets k + body_octets (Parameter k) tail
unfolding body_octets
own_octets k tail =
    (elim (is_tv k) as (λ b. is_tv k ≡ b → 2 + length tail ≤ head_octets k + body_octets (Parameter k) tail) [
      | true ↦ λ e.
          let one : head_octets k ≡ 1 = rw e refl in
          let f = tv_field k e in
          let some = some_bits (fields_of (Parameter k)) f.0 f.1 (are_rules (Parameter k)) in
          let whole = whole_octets (Parameter k) in
          omega arith
      | false ↦ λ e.
          let four : head_octets k ≡ 4 = rw e refl in
          omega arith
    ]) refl

pub weight_within : (f : Forest) → weight f ≤ octets f
weight_within none = omega arith
weight_within (and before k vs tail cs) = omega (arith, weight_within before, weight_within cs, own_octets k tail)

pub frame_weight : (m : MessageTree) (bytes : List ℕ) (limit : ℕ) → Frame m bytes limit → message_weight m ≤ length bytes
unfolding body_octets
frame_weight m bytes limit f = omega (arith, frame_length m bytes limit f, weight_within m.children)
