use Rattle.std.proofs.Common.{◌≡◌, refl, sym, ◌∙◌}
use Rattle.llrp_schema.specs.declared.kinds.Kind.TheVariants.{Message}
use Rattle.llrp_schema.specs.declared.kinds.MsgKind.TheVariants.{RoAccessReport, WholeRoAccessReport}
use Rattle.llrp_schema.specs.declared.kinds.KindSet.TheVariants.{Profile, Standard}
use Rattle.llrp_schema.specs.Schema.{message_rule, set_of_kind, rule_of}
use Rattle.llrp_listing.proofs.encode.guess.some_message.Goals as goal

own : set_of_kind (Message RoAccessReport) ≡ Profile
unfolding set_of_kind rule_of message_rule
own = refl

whole : set_of_kind (Message WholeRoAccessReport) ≡ Standard
unfolding set_of_kind rule_of message_rule
whole = refl

pub returns-in-Profile : goal.returns-in-Profile
returns-in-Profile c = own ∙ sym c.in-Profile.is

pub returns-in-Standard : goal.returns-in-Standard
returns-in-Standard c = whole ∙ sym c.in-Standard.is
