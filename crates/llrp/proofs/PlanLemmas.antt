-- The plan that is read.
use Rattle.std.proofs.Common.{◌≡◌, ℕ, List, Ok, ap, subst, ◌∙◌}
use Rattle.llrp_schema.specs.declared.kinds.KindSet.{KindSet}
use Rattle.llrp_tree.specs.Tree.{Tree}
use Rattle.llrp_stream.specs.Device.{SourceLog}
use Rattle.llrp_endpoints.specs.Plan.{Plan}
use Rattle.llrp_endpoints.specs.Calls.PlanTexts.{IsTaken, ListsRoSpec, given_in}
use Rattle.llrp_endpoints.specs.Calls.ReadRoSpec.{IsEnough}
use Rattle.llrp_endpoints.proofs.RoSpecTexts.{read_whole}
use Rattle.llrp_words.specs.declared.arguments.PlanWords.{PlanWords}
use Rattle.llrp.specs.Calls.Plan.{ReadsPlan, asked_polls, asked_set, with_options}

pub plan_read : (words : PlanWords) (r0 r1 : SourceLog) (text seen : List ℕ) (plan result : Plan) (t : Tree) (set : KindSet) (polls : ℕ) → seen ≡ text → IsEnough r0 r1 text → ListsRoSpec set seen t → IsTaken set t → plan ≡ given_in set t polls words.check
    → set ≡ asked_set words → polls ≡ asked_polls words → result ≡ with_options words plan → ReadsPlan words r0 r1 (Ok result)
plan_read words r0 r1 text seen plan result t set polls same enough lists taken is sets asked made =
    let own : ListsRoSpec set text t = subst (λ (x : List ℕ). ListsRoSpec set x t) same lists in
    let all = read_whole set r0 r1 text t enough taken own in
    let whole : plan ≡ given_in (asked_set words) t (asked_polls words) words.check = is ∙ ap (λ (s : KindSet). given_in s t polls words.check) sets ∙ ap (λ (n : ℕ). given_in (asked_set words) t n words.check) asked in
    (text, t, all, subst (λ (s : KindSet). ListsRoSpec s text t) sets own, made ∙ ap (λ (p : Plan). with_options words p) whole)
