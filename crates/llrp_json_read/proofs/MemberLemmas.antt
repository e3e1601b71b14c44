-- The members of an object, one by one.
use Rattle.std.proofs.Common.{◌≡◌, ℕ, Bool, false, true, cond, List, ◌∷◌, Some, sym, ap, ◌∙◌}
use Rattle.std.specs.Prelude.{bytes_eq, not}
use Rattle.std.specs.Borrow.{Bor}
use Rattle.std.specs.List.{list_any}
use Rattle.json.specs.Value.{members_view}
use Rattle.json.specs.declared.value.Value.{Value}
use Rattle.llrp_json_read.specs.ObjectMembers.{MemberRule, unknown}

member_next : {A : Type 0} (m : Bor (List ℕ) × Value A) (ms : List (Bor (List ℕ) × Value A)) (rules : List MemberRule) (known : Bool) → known ≡ list_any (λ rule. bytes_eq rule.name m.0.now) rules
    → unknown (members_view (m ∷ ms)) rules ≡ cond (not known) (Some m.0.now) (unknown (members_view ms) rules)
member_next m ms rules known e = ap (λ b. cond (not b) (Some m.0.now) (unknown (members_view ms) rules)) (sym e)

-- a member that is none of those that the object has
pub unknown_here : {A : Type 0} (m : Bor (List ℕ) × Value A) (ms : List (Bor (List ℕ) × Value A)) (rules : List MemberRule) (known : Bool) → known ≡ list_any (λ rule. bytes_eq rule.name m.0.now) rules → known ≡ false → unknown (members_view (m ∷ ms)) rules ≡ Some m.0.now
unknown_here m ms rules known e off = member_next m ms rules known e ∙ ap (λ b. cond (not b) (Some m.0.now) (unknown (members_view ms) rules)) off

-- a member that is one of them
pub known_here : {A : Type 0} (m : Bor (List ℕ) × Value A) (ms : List (Bor (List ℕ) × Value A)) (rules : List MemberRule) (known : Bool) → known ≡ list_any (λ rule. bytes_eq rule.name m.0.now) rules → known ≡ true → unknown (members_view (m ∷ ms)) rules ≡ unknown (members_view ms) rules
known_here m ms rules known e on = member_next m ms rules known e ∙ ap (λ b. cond (not b) (Some m.0.now) (unknown (members_view ms) rules)) on
