-- The member at which an object is refused.
use Rattle.std.proofs.Common.{◌≡◌, ℕ, List, Some, sym, ap, ◌∙◌}
use Rattle.json.specs.Find.{as_object}
use Rattle.json.specs.Json.{Json, Members}
use Rattle.llrp_schema.specs.declared.kinds.Kind.{Kind}
use Rattle.llrp_json_read.specs.declared.refusal.Reason.{Reason}
use Rattle.llrp_json_read.specs.MemberRules.{member_rules}
use Rattle.llrp_json_read.specs.ObjectMembers.{MemberRule, member_fault}
use Rattle.llrp_json_read.specs.ObjectRefused.{Refused, at_member}

pub fault_found : (j : Json) (kind : Kind) (seen : Members) (rules : List MemberRule) (name : List ℕ) (why : Reason) (r : Refused) → Some seen ≡ as_object j → rules ≡ member_rules kind → Some (name, why) ≡ member_fault j seen rules → r ≡ at_member name why
    → (members : Members) → as_object j ≡ Some members → (at : List ℕ × Reason) × (member_fault j members (member_rules kind) ≡ Some at) × (r ≡ at_member at.0 at.1)
fault_found j kind seen rules name why r is same found refused members e =
    let both : Some seen ≡ Some members = is ∙ e in
    let one : seen ≡ members = cc in
    ((name, why), sym (found ∙ ap (λ (ms : Members). member_fault j ms rules) one ∙ ap (λ (rs : List MemberRule). member_fault j members rs) same), refused)
