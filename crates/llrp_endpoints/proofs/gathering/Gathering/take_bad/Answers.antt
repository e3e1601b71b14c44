use Rattle.std.proofs.Common.{◌≡◌, ◌∙◌, sym, subst}
use Rattle.std.specs.Prelude.{◌⊎◌}
use Rattle.llrp_tree.specs.declared.fault.Reason.{Reason}
use Rattle.llrp_tree.specs.declared.fault.Reason.TheVariants.{MessageType, ParamType}
use Rattle.llrp_endpoints.proofs.HeardFaults.{unknown_passed, other_is_strange}
use Rattle.llrp_endpoints.proofs.gathering.Gathering.take_bad.Goals as goal

pub returns-in-MessageType : goal.returns-in-MessageType
returns-in-MessageType c = λ d o r id fault same h opened.
    let unknown : (fault.reason ≡ MessageType) ⊎ (fault.reason ≡ ParamType) = subst (λ (x : Reason). (x ≡ MessageType) ⊎ (x ≡ ParamType)) (sym same) c.in-MessageType.is in
    unknown_passed c.args.self.now.hearing d c.args.self.now o r id fault unknown h opened

pub returns-in_default : goal.returns-in_default
returns-in_default c = λ d o r id fault same h opened.
    other_is_strange c.args.self.now.hearing d c.args.self.now o r id fault (λ e. c.in_default.not-MessageType (sym same ∙ e)) (λ e. c.in_default.not-ParamType (sym same ∙ e)) opened
