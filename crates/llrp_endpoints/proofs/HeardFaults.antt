-- What a client makes of a frame that is no message.
use Rattle.std.proofs.Common.{◌≡◌, ℕ, false, List, [], ◌∷◌, Err, Ok, refl, sym, ap, subst, ◌∙◌}
use Rattle.std.specs.Prelude.{◌⊎◌}
use Rattle.llrp_endpoints.specs.declared.hearing.Hearing.{Hearing}
use Rattle.llrp_tree.specs.declared.fault.Fault.{Fault}
use Rattle.llrp_tree.specs.declared.fault.Reason.TheVariants.{MessageType, ParamType}
use Rattle.llrp_stream.specs.declared.item.Item.{Item}
use Rattle.llrp_stream.specs.declared.item.Item.TheVariants.{Bad}
use Rattle.llrp_listing.specs.declared.outcome.ToolErr.TheVariants.{Strange}
use Rattle.llrp_endpoints.specs.declared.course.Phase.TheVariants.{Open}
use Rattle.llrp_endpoints.specs.declared.gathering.Gathering.{Gathering}
use Rattle.llrp_endpoints.specs.Gathering.{Course, after_bad, follow}
use Rattle.llrp_endpoints.specs.Heard.{heard}
use Rattle.llrp_endpoints.specs.Calls.GatheringStands.{Holds}
use Rattle.llrp_endpoints.specs.Private.GatheringStands.{Does}
use Rattle.llrp_endpoints.proofs.GatheringSteps.{passed, strange, bad_passes, bad_is_strange}
use Rattle.llrp_endpoints.proofs.HeardLemmas.{follows_one}

-- a fault is heard
fault_heard : (p : Hearing) (id : ℕ) (fault : Fault) → heard p (Bad id fault ∷ []) ≡ Bad id fault ∷ []
fault_heard p id fault = refl

follows_bad : (p : Hearing) (c : Course) (id : ℕ) (fault : Fault) → heard p (Bad id fault ∷ []) ≡ Bad id fault ∷ [] → c.phase ≡ Open → after_bad fault.reason c ≡ follow (heard p (Bad id fault ∷ [])) c
follows_bad p c id fault e opened = follows_one (Bad id fault) c opened ∙ ap (λ (items : List Item). follow items c) (sym e)

-- a frame of an unknown type
pub unknown_passed : (p : Hearing) (c : Course) (g : Gathering) (o r : List ℕ) (id : ℕ) (fault : Fault) → (fault.reason ≡ MessageType) ⊎ (fault.reason ≡ ParamType) → Holds c g → c.phase ≡ Open
    → Does c (follow (heard p (Bad id fault ∷ [])) c) g o o r r (Ok false)
unknown_passed p c g o r id fault unknown h opened =
    subst (λ (d : Course). Does c d g o o r r (Ok false)) (bad_passes fault.reason c unknown ∙ follows_bad p c id fault (fault_heard p id fault) opened) (passed c g o r h opened)

strange_fault : (p : Hearing) (c : Course) (g : Gathering) (o r : List ℕ) (id : ℕ) (fault : Fault) → heard p (Bad id fault ∷ []) ≡ Bad id fault ∷ [] → (fault.reason ≡ MessageType → ⊥) → (fault.reason ≡ ParamType → ⊥) → c.phase ≡ Open
    → Does c (follow (heard p (Bad id fault ∷ [])) c) g o o r r (Err Strange)
strange_fault p c g o r id fault e no_message no_parameter opened =
    subst (λ (d : Course). Does c d g o o r r (Err Strange)) (bad_is_strange fault.reason c no_message no_parameter ∙ follows_bad p c id fault e opened) (strange c g o r)

-- any other fault
pub other_is_strange : (p : Hearing) (c : Course) (g : Gathering) (o r : List ℕ) (id : ℕ) (fault : Fault) → (fault.reason ≡ MessageType → ⊥) → (fault.reason ≡ ParamType → ⊥) → c.phase ≡ Open
    → Does c (follow (heard p (Bad id fault ∷ [])) c) g o o r r (Err Strange)
other_is_strange p c g o r id fault no_message no_parameter opened = strange_fault p c g o r id fault (fault_heard p id fault) no_message no_parameter opened
