-- The responses are lawful messages.
use Rattle.std.proofs.Common.{◌≡◌, ℕ, List, [], ◌∷◌, refl, subst, true}
use Rattle.std.specs.Str.{is_utf8}
use Rattle.std.proofs.lemmas.Str.{IsUtf8-nil, is_utf8-from_IsUtf8}
use Rattle.std.specs.Prelude.{None, Some}
use Rattle.llrp_schema.specs.declared.kinds.MsgKind.{MsgKind}
use Rattle.llrp_schema.specs.declared.kinds.MsgKind.TheVariants.{WholeGetSupportedVersionResponse, WholeSetProtocolVersionResponse}
use Rattle.llrp_schema.specs.declared.kinds.ParamKind.TheVariants.{WholeLlrpStatus}
use Rattle.llrp_schema.specs.Schema.{number_of, rule_of, message_rule, param_rule, fields_of, tail_of, groups_of, is_tv, key_of, set_of_kind}
use Rattle.llrp_tree.specs.Tree.{Tree, MessageTree, none, forest}
use Rattle.llrp_tree.specs.Lawful.{body_octets, AllLawful, AreLawful, IsLawfulMessage}
use Rattle.llrp_tree.specs.Checks.{all_placed, none_too_many, none_missing, table_tests, first_fault, first_message_fault}
use Rattle.llrp_tree.proofs.LawLemmas.{lawful_from}
use Rattle.llrp_session.proofs.AnswersLawful.{is_lawful, success_lawful}
use Rattle.llrp_session.proofs.LawfulParts.{no_message_fault}
use Rattle.llrp_tree.specs.declared.node.NodeFault.{NodeFault}
use Rattle.llrp_versions.specs.declared.version.Version.{Version}
use Rattle.llrp_versions.specs.declared.version.Version.TheVariants.{First, Second}
use Rattle.llrp_versions.specs.Calls.Versions as versions

no_text : is_utf8 [] ≡ true
no_text = is_utf8-from_IsUtf8 [] IsUtf8-nil

pub fine : AreLawful WholeLlrpStatus (0 ∷ []) [] none
fine = success_lawful

pub unsupported : AreLawful WholeLlrpStatus (110 ∷ []) [] none
unfolding first_fault table_tests all_placed none_too_many none_missing rule_of param_rule number_of key_of set_of_kind fields_of tail_of groups_of is_tv body_octets
unsupported = lawful_from WholeLlrpStatus (110 ∷ []) [] none tt (rw no_text refl)

by : (m : MessageTree) (kind : MsgKind) (fields : List ℕ) (code : ℕ) → IsLawfulMessage m → AreLawful WholeLlrpStatus (code ∷ []) [] none → first_message_fault 1 kind fields [] (forest (versions.status code ∷ [])) ≡ None
    → IsLawfulMessage (versions.response m kind fields code)
by m kind fields code lawful status passes =
    let parts : AllLawful (forest (versions.status code ∷ [])) = (tt, status, tt) in
    is_lawful m.version m.id (record { kind = kind; fields = fields; parameters = versions.status code ∷ [] }) lawful.version lawful.id parts passes

pub supported : (m : MessageTree) (v : Version) → IsLawfulMessage m → IsLawfulMessage (versions.response m WholeGetSupportedVersionResponse (versions.number_of v ∷ (2 ∷ [])) 0)
unfolding first_message_fault table_tests all_placed none_too_many none_missing rule_of message_rule param_rule number_of key_of set_of_kind fields_of tail_of groups_of is_tv body_octets
supported m First lawful = by m WholeGetSupportedVersionResponse (1 ∷ (2 ∷ [])) 0 lawful fine refl
supported m Second lawful = by m WholeGetSupportedVersionResponse (2 ∷ (2 ∷ [])) 0 lawful fine refl

pub set_fine : (m : MessageTree) → IsLawfulMessage m → IsLawfulMessage (versions.response m WholeSetProtocolVersionResponse [] 0)
unfolding first_message_fault table_tests all_placed none_too_many none_missing rule_of message_rule param_rule number_of key_of set_of_kind fields_of tail_of groups_of is_tv body_octets
set_fine m lawful = by m WholeSetProtocolVersionResponse [] 0 lawful fine refl

pub set_unsupported : (m : MessageTree) → IsLawfulMessage m → IsLawfulMessage (versions.response m WholeSetProtocolVersionResponse [] 110)
unfolding first_message_fault table_tests all_placed none_too_many none_missing rule_of message_rule param_rule number_of key_of set_of_kind fields_of tail_of groups_of is_tv body_octets
set_unsupported m lawful = by m WholeSetProtocolVersionResponse [] 110 lawful unsupported refl

-- ---- as the code makes them

pub no_fault_in : (m : MessageTree) (v : ℕ) (kind : MsgKind) (fields : List ℕ) (code : ℕ) (row : List Tree) (fault : NodeFault) → v ≡ m.version → row ≡ versions.status code ∷ [] → IsLawfulMessage (versions.response m kind fields code)
    → first_message_fault v kind fields [] (forest row) ≡ Some fault → ⊥
no_fault_in m v kind fields code row fault e is lawful f =
    no_message_fault m.version m.id kind fields row (versions.status code ∷ []) fault is lawful (subst (λ (x : ℕ). first_message_fault x kind fields [] (forest row) ≡ Some fault) e f)

pub same_numbers : (m : MessageTree) (v : Version) (a b : ℕ) → a ≡ versions.number_of v → b ≡ 2 → IsLawfulMessage m → IsLawfulMessage (versions.response m WholeGetSupportedVersionResponse (a ∷ (b ∷ [])) 0)
same_numbers m v a b e f lawful = rw (e, f) (supported m v lawful)
