-- The parameters and the messages of the answers are lawful.
use Rattle.std.proofs.Common.{◌≡◌, ℕ, ◌<◌, ◌^◌, List, [], ◌∷◌, ◌∙◌, true, refl, sym, ap, arith, inl, inr, lit<}
use Rattle.std.specs.Prelude.{None, Some, ◌⊎◌, Bool, false, ◌==◌, if◌then◌else◌}
use Rattle.std.specs.Str.{is_utf8}
use Rattle.std.proofs.lemmas.Bool.{le-leb}
use Rattle.std.proofs.lemmas.Str.{IsUtf8-nil, is_utf8-from_IsUtf8}
use Rattle.llrp_schema.specs.declared.kinds.MsgKind.{MsgKind}
use Rattle.llrp_schema.specs.declared.kinds.MsgKind.TheVariants.{WholeDeleteAccessSpecResponse, WholeEnableAccessSpecResponse, WholeDisableAccessSpecResponse, WholeGetAccessSpecsResponse}
use Rattle.llrp_schema.specs.declared.kinds.ParamKind.{ParamKind}
use Rattle.llrp_schema.specs.declared.kinds.ParamKind.TheVariants.{WholeLlrpStatus, WholeGeneralDeviceCapabilities, WholeReceiveSensitivityTableEntry, WholePerAntennaAirProtocol, WholeGpioCapabilities, WholeLlrpCapabilities, WholeRegulatoryCapabilities, WholeUhfBandCapabilities, WholeTransmitPowerLevelTableEntry, WholeFrequencyInformation, WholeFixedFrequencyTable, WholeC1G2LlrpCapabilities, WholeC1G2UhfRfModeTable, WholeC1G2UhfRfModeTableEntry, WholeIdentification, WholeAntennaProperties}
use Rattle.llrp_schema.specs.Schema.{number_of, rule_of, message_rule, param_rule, fields_of, tail_of, groups_of, is_tv, key_of, set_of_kind}
use Rattle.llrp_tree.specs.declared.node.NodeFault.{NodeFault}
use Rattle.llrp_tree.specs.Tree.{Forest, Tree, MessageTree, none, forest}
use Rattle.llrp_tree.specs.Lawful.{body_octets, AllLawful, AreLawful, IsLawfulTree, IsLawfulMessage}
use Rattle.llrp_tree.specs.Checks.{all_placed, none_too_many, none_missing, table_tests, first_fault, first_message_fault}
use Rattle.llrp_tree.proofs.LawLemmas.{lawful_from, lawful_to, message_from}
use Rattle.llrp_session.specs.ReaderMessages.{parameter}
use Rattle.llrp_session.specs.Calls.Answers.{with_tail, success, air_protocol, general, of_llrp, mode, modes, frequencies, band, regulatory, air, identification, antenna, Answer, capabilities, configuration, versions, status_of_fields, of_access, message}

-- lawful parts are not refused
pub not_refused : (kind : ParamKind) (fields tail octets : List ℕ) (row children : List Tree) (fault : NodeFault) → octets ≡ tail → row ≡ children → children ≡ [] → AreLawful kind fields tail none
    → first_fault kind fields octets (forest row) ≡ Some fault → ⊥
not_refused kind fields tail octets row children fault t r n h e =
    let k = lawful_to kind fields tail none h in
    let a = ap (λ (x : List ℕ). first_fault kind fields x (forest row)) t in
    let b = ap (λ (x : List Tree). first_fault kind fields tail (forest x)) (r ∙ n) in
    let f = sym e ∙ a ∙ b ∙ k in cc

-- the octets of a tail are these
pub of_tail : (kind : ParamKind) (fields tail octets : List ℕ) → octets ≡ tail → AreLawful kind fields tail none → AreLawful kind fields octets none
of_tail kind fields tail octets t h = rw t h

pub made_of : (kind : ParamKind) (fields tail octets : List ℕ) (made : Tree) → octets ≡ tail → made ≡ with_tail kind fields octets → made ≡ with_tail kind fields tail
made_of kind fields tail octets made t e = rw (e, t) refl

-- ---- parameters without children

no_text : is_utf8 [] ≡ true
no_text = is_utf8-from_IsUtf8 [] IsUtf8-nil

pub success_lawful : AreLawful WholeLlrpStatus (0 ∷ []) ([]) none
unfolding first_fault table_tests all_placed none_too_many none_missing rule_of param_rule number_of key_of set_of_kind fields_of tail_of groups_of is_tv body_octets
success_lawful = lawful_from WholeLlrpStatus (0 ∷ []) [] none tt (rw no_text refl)

none_such_lawful : AreLawful WholeLlrpStatus (101 ∷ []) ([]) none
unfolding first_fault table_tests all_placed none_too_many none_missing rule_of param_rule number_of key_of set_of_kind fields_of tail_of groups_of is_tv body_octets
none_such_lawful = lawful_from WholeLlrpStatus (101 ∷ []) [] none tt (rw no_text refl)

status_where : (b : Bool) → AreLawful WholeLlrpStatus ((if b then 0 else 101) ∷ []) [] none
status_where true = success_lawful
status_where false = none_such_lawful

pub status_lawful : (fields : List ℕ) → AreLawful WholeLlrpStatus (status_of_fields fields ∷ []) [] none
status_lawful [] = success_lawful
status_lawful (id ∷ fields) = status_where (id == 0)

pub sensitivity_lawful : AreLawful WholeReceiveSensitivityTableEntry (1 ∷ 0 ∷ []) ([]) none
unfolding first_fault table_tests all_placed none_too_many none_missing rule_of param_rule number_of key_of set_of_kind fields_of tail_of groups_of is_tv body_octets
sensitivity_lawful = lawful_from WholeReceiveSensitivityTableEntry (1 ∷ 0 ∷ []) ([]) none tt refl

pub ports_lawful : AreLawful WholeGpioCapabilities (0 ∷ 0 ∷ []) ([]) none
unfolding first_fault table_tests all_placed none_too_many none_missing rule_of param_rule number_of key_of set_of_kind fields_of tail_of groups_of is_tv body_octets
ports_lawful = lawful_from WholeGpioCapabilities (0 ∷ 0 ∷ []) ([]) none tt refl

pub power_lawful : AreLawful WholeTransmitPowerLevelTableEntry (1 ∷ 3000 ∷ []) ([]) none
unfolding first_fault table_tests all_placed none_too_many none_missing rule_of param_rule number_of key_of set_of_kind fields_of tail_of groups_of is_tv body_octets
power_lawful = lawful_from WholeTransmitPowerLevelTableEntry (1 ∷ 3000 ∷ []) ([]) none tt refl

pub air_lawful : AreLawful WholeC1G2LlrpCapabilities (0 ∷ 0 ∷ 0 ∷ 0 ∷ 0 ∷ 0 ∷ 0 ∷ []) ([]) none
unfolding first_fault table_tests all_placed none_too_many none_missing rule_of param_rule number_of key_of set_of_kind fields_of tail_of groups_of is_tv body_octets
air_lawful = lawful_from WholeC1G2LlrpCapabilities (0 ∷ 0 ∷ 0 ∷ 0 ∷ 0 ∷ 0 ∷ 0 ∷ []) ([]) none tt refl

pub air_protocol_lawful : (antenna : ℕ) → antenna < 2 ^ 16 → AreLawful WholePerAntennaAirProtocol (antenna ∷ 1 ∷ []) (1 ∷ []) none
unfolding first_fault table_tests all_placed none_too_many none_missing rule_of param_rule number_of key_of set_of_kind fields_of tail_of groups_of is_tv body_octets
air_protocol_lawful antenna h = let e = le-leb antenna 65535 (omega arith) in lawful_from WholePerAntennaAirProtocol (antenna ∷ 1 ∷ []) (1 ∷ []) none (lit< tt, tt) (rw e refl)

pub of_llrp_lawful : AreLawful WholeLlrpCapabilities (0 ∷ 0 ∷ 0 ∷ 0 ∷ 0 ∷ 8 ∷ 0 ∷ 0 ∷ 0 ∷ []) (0 ∷ 0 ∷ 0 ∷ 0 ∷ 0 ∷ 0 ∷ 0 ∷ 0 ∷ 0 ∷ 0 ∷ 0 ∷ 0 ∷ []) none
unfolding first_fault table_tests all_placed none_too_many none_missing rule_of param_rule number_of key_of set_of_kind fields_of tail_of groups_of is_tv body_octets
of_llrp_lawful = lawful_from WholeLlrpCapabilities (0 ∷ 0 ∷ 0 ∷ 0 ∷ 0 ∷ 8 ∷ 0 ∷ 0 ∷ 0 ∷ []) (0 ∷ 0 ∷ 0 ∷ 0 ∷ 0 ∷ 0 ∷ 0 ∷ 0 ∷ 0 ∷ 0 ∷ 0 ∷ 0 ∷ []) none (lit< tt, (lit< tt, (lit< tt, (lit< tt, (lit< tt, (lit< tt, (lit< tt, (lit< tt, (lit< tt, (lit< tt, (lit< tt, (lit< tt, tt)))))))))))) refl

pub mode_lawful : AreLawful WholeC1G2UhfRfModeTableEntry (0 ∷ 0 ∷ 0 ∷ 2 ∷ 0 ∷ 0 ∷ 40000 ∷ []) (0 ∷ 0 ∷ 5 ∷ 220 ∷ 0 ∷ 0 ∷ 97 ∷ 168 ∷ 0 ∷ 0 ∷ 97 ∷ 168 ∷ 0 ∷ 0 ∷ 0 ∷ 0 ∷ []) none
unfolding first_fault table_tests all_placed none_too_many none_missing rule_of param_rule number_of key_of set_of_kind fields_of tail_of groups_of is_tv body_octets
mode_lawful = lawful_from WholeC1G2UhfRfModeTableEntry (0 ∷ 0 ∷ 0 ∷ 2 ∷ 0 ∷ 0 ∷ 40000 ∷ []) (0 ∷ 0 ∷ 5 ∷ 220 ∷ 0 ∷ 0 ∷ 97 ∷ 168 ∷ 0 ∷ 0 ∷ 97 ∷ 168 ∷ 0 ∷ 0 ∷ 0 ∷ 0 ∷ []) none (lit< tt, (lit< tt, (lit< tt, (lit< tt, (lit< tt, (lit< tt, (lit< tt, (lit< tt, (lit< tt, (lit< tt, (lit< tt, (lit< tt, (lit< tt, (lit< tt, (lit< tt, (lit< tt, tt)))))))))))))))) refl

pub fixed_lawful : AreLawful WholeFixedFrequencyTable (1 ∷ []) (0 ∷ 13 ∷ 55 ∷ 252 ∷ []) none
unfolding first_fault table_tests all_placed none_too_many none_missing rule_of param_rule number_of key_of set_of_kind fields_of tail_of groups_of is_tv body_octets
fixed_lawful = lawful_from WholeFixedFrequencyTable (1 ∷ []) (0 ∷ 13 ∷ 55 ∷ 252 ∷ []) none (lit< tt, (lit< tt, (lit< tt, (lit< tt, tt)))) refl

pub identification_lawful : AreLawful WholeIdentification (0 ∷ 8 ∷ []) (0 ∷ 0 ∷ 0 ∷ 0 ∷ 0 ∷ 0 ∷ 0 ∷ 0 ∷ []) none
unfolding first_fault table_tests all_placed none_too_many none_missing rule_of param_rule number_of key_of set_of_kind fields_of tail_of groups_of is_tv body_octets
identification_lawful = lawful_from WholeIdentification (0 ∷ 8 ∷ []) (0 ∷ 0 ∷ 0 ∷ 0 ∷ 0 ∷ 0 ∷ 0 ∷ 0 ∷ []) none (lit< tt, (lit< tt, (lit< tt, (lit< tt, (lit< tt, (lit< tt, (lit< tt, (lit< tt, tt)))))))) refl

pub antenna_lawful : (number : ℕ) → number < 2 ^ 16 → AreLawful WholeAntennaProperties (1 ∷ number ∷ 0 ∷ []) ([]) none
unfolding first_fault table_tests all_placed none_too_many none_missing rule_of param_rule number_of key_of set_of_kind fields_of tail_of groups_of is_tv body_octets
antenna_lawful number h = let e = le-leb number 65535 (omega arith) in lawful_from WholeAntennaProperties (1 ∷ number ∷ 0 ∷ []) [] none tt (rw e refl)

-- ---- parameters with children

general_lawful : IsLawfulTree general
unfolding general first_fault table_tests all_placed none_too_many none_missing rule_of param_rule number_of key_of set_of_kind fields_of tail_of groups_of is_tv body_octets
general_lawful =
    let parts : AllLawful general.children = ((((tt, sensitivity_lawful, tt), ports_lawful, tt), air_protocol_lawful 1 (lit< tt), tt), air_protocol_lawful 2 (lit< tt), tt) in
    (lawful_from WholeGeneralDeviceCapabilities (2 ∷ 0 ∷ 1 ∷ 0 ∷ 0 ∷ []) [] general.children tt (rw no_text refl), parts)

modes_lawful : IsLawfulTree modes
unfolding modes mode first_fault table_tests all_placed none_too_many none_missing rule_of param_rule number_of key_of set_of_kind fields_of tail_of groups_of is_tv body_octets
modes_lawful =
    let parts : AllLawful modes.children = (tt, mode_lawful, tt) in
    (lawful_from WholeC1G2UhfRfModeTable [] [] modes.children tt refl, parts)

frequencies_lawful : IsLawfulTree frequencies
unfolding frequencies first_fault table_tests all_placed none_too_many none_missing rule_of param_rule number_of key_of set_of_kind fields_of tail_of groups_of is_tv body_octets
frequencies_lawful =
    let parts : AllLawful frequencies.children = (tt, fixed_lawful, tt) in
    (lawful_from WholeFrequencyInformation (0 ∷ []) [] frequencies.children tt refl, parts)

band_lawful : IsLawfulTree band
unfolding band frequencies modes mode first_fault table_tests all_placed none_too_many none_missing rule_of param_rule number_of key_of set_of_kind fields_of tail_of groups_of is_tv body_octets
band_lawful =
    let parts : AllLawful band.children = (((tt, power_lawful, tt), frequencies_lawful.0, frequencies_lawful.1), modes_lawful.0, modes_lawful.1) in
    (lawful_from WholeUhfBandCapabilities [] [] band.children tt refl, parts)

regulatory_lawful : IsLawfulTree regulatory
unfolding regulatory band frequencies modes mode first_fault table_tests all_placed none_too_many none_missing rule_of param_rule number_of key_of set_of_kind fields_of tail_of groups_of is_tv body_octets
regulatory_lawful =
    let parts : AllLawful regulatory.children = (tt, band_lawful.0, band_lawful.1) in
    (lawful_from WholeRegulatoryCapabilities (0 ∷ 0 ∷ []) [] regulatory.children tt refl, parts)

-- ---- as the code makes them

pub general_parts : (items : List Tree) (a b c d : Tree) → items ≡ a ∷ b ∷ c ∷ d ∷ [] → a ≡ parameter WholeReceiveSensitivityTableEntry (1 ∷ 0 ∷ []) [] → b ≡ parameter WholeGpioCapabilities (0 ∷ 0 ∷ []) []
    → c ≡ air_protocol 1 → d ≡ air_protocol 2 → AreLawful WholeGeneralDeviceCapabilities (2 ∷ 0 ∷ 1 ∷ 0 ∷ 0 ∷ []) [] (forest items)
unfolding general
general_parts items a b c d i p q r s = rw (i, p, q, r, s) general_lawful.0

pub general_is : (items : List Tree) (a b c d made : Tree) → items ≡ a ∷ b ∷ c ∷ d ∷ [] → a ≡ parameter WholeReceiveSensitivityTableEntry (1 ∷ 0 ∷ []) [] → b ≡ parameter WholeGpioCapabilities (0 ∷ 0 ∷ []) []
    → c ≡ air_protocol 1 → d ≡ air_protocol 2 → made ≡ parameter WholeGeneralDeviceCapabilities (2 ∷ 0 ∷ 1 ∷ 0 ∷ 0 ∷ []) items → made ≡ general
unfolding general
general_is items a b c d made i p q r s e = rw (e, i, p, q, r, s) refl

pub mode_is : (made : Tree) → made ≡ with_tail WholeC1G2UhfRfModeTableEntry (0 ∷ 0 ∷ 0 ∷ 2 ∷ 0 ∷ 0 ∷ 40000 ∷ []) (0 ∷ 0 ∷ 5 ∷ 220 ∷ 0 ∷ 0 ∷ 97 ∷ 168 ∷ 0 ∷ 0 ∷ 97 ∷ 168 ∷ 0 ∷ 0 ∷ 0 ∷ 0 ∷ []) → made ≡ mode
unfolding mode
mode_is made e = e

pub modes_parts : (items : List Tree) (a : Tree) → items ≡ a ∷ [] → a ≡ mode → AreLawful WholeC1G2UhfRfModeTable [] [] (forest items)
unfolding modes
modes_parts items a i p = rw (i, p) modes_lawful.0

pub modes_is : (items : List Tree) (a made : Tree) → items ≡ a ∷ [] → a ≡ mode → made ≡ parameter WholeC1G2UhfRfModeTable [] items → made ≡ modes
unfolding modes
modes_is items a made i p e = rw (e, i, p) refl

pub frequencies_parts : (items : List Tree) (a : Tree) → items ≡ a ∷ [] → a ≡ with_tail WholeFixedFrequencyTable (1 ∷ []) (0 ∷ 13 ∷ 55 ∷ 252 ∷ []) → AreLawful WholeFrequencyInformation (0 ∷ []) [] (forest items)
unfolding frequencies
frequencies_parts items a i p = rw (i, p) frequencies_lawful.0

pub frequencies_is : (items : List Tree) (a made : Tree) → items ≡ a ∷ [] → a ≡ with_tail WholeFixedFrequencyTable (1 ∷ []) (0 ∷ 13 ∷ 55 ∷ 252 ∷ []) → made ≡ parameter WholeFrequencyInformation (0 ∷ []) items → made ≡ frequencies
unfolding frequencies
frequencies_is items a made i p e = rw (e, i, p) refl

pub band_parts : (items : List Tree) (a b c : Tree) → items ≡ a ∷ b ∷ c ∷ [] → a ≡ parameter WholeTransmitPowerLevelTableEntry (1 ∷ 3000 ∷ []) [] → b ≡ frequencies → c ≡ modes → AreLawful WholeUhfBandCapabilities [] [] (forest items)
unfolding band
band_parts items a b c i p q r = rw (i, p, q, r) band_lawful.0

pub band_is : (items : List Tree) (a b c made : Tree) → items ≡ a ∷ b ∷ c ∷ [] → a ≡ parameter WholeTransmitPowerLevelTableEntry (1 ∷ 3000 ∷ []) [] → b ≡ frequencies → c ≡ modes → made ≡ parameter WholeUhfBandCapabilities [] items → made ≡ band
unfolding band
band_is items a b c made i p q r e = rw (e, i, p, q, r) refl

pub regulatory_parts : (items : List Tree) (a : Tree) → items ≡ a ∷ [] → a ≡ band → AreLawful WholeRegulatoryCapabilities (0 ∷ 0 ∷ []) [] (forest items)
unfolding regulatory
regulatory_parts items a i p = rw (i, p) regulatory_lawful.0

pub regulatory_is : (items : List Tree) (a made : Tree) → items ≡ a ∷ [] → a ≡ band → made ≡ parameter WholeRegulatoryCapabilities (0 ∷ 0 ∷ []) items → made ≡ regulatory
unfolding regulatory
regulatory_is items a made i p e = rw (e, i, p) refl

-- ---- messages

pub any_version : (v : ℕ) → (v ≡ 1) ⊎ (v ≡ 2) → (kind : MsgKind) (values : List ℕ) (f : Forest) → first_message_fault 1 kind values [] f ≡ None → first_message_fault v kind values [] f ≡ None
unfolding first_message_fault
any_version v (inl e) kind values f h = rw e h
any_version v (inr e) kind values f h = rw e h

pub is_lawful : (v id : ℕ) (a : Answer) → (v ≡ 1) ⊎ (v ≡ 2) → id < 2 ^ 32 → AllLawful (forest a.parameters) → first_message_fault 1 a.kind a.fields [] (forest a.parameters) ≡ None → IsLawfulMessage (message v id a)
is_lawful v id a version small children passes = message_from v id a.kind a.fields [] (forest a.parameters) small tt children (any_version v version a.kind a.fields (forest a.parameters) passes)

-- made of these parts, the message is lawful, and the answer
pub message_lawful : (v id : ℕ) (a : Answer) (items : List Tree) → items ≡ a.parameters → IsLawfulMessage (message v id a) → IsLawfulMessage (record { version = v; id = id; kind = a.kind; fields = a.fields; tail = []; children = forest items })
message_lawful v id a items i h = rw i h

pub message_is : (v id : ℕ) (a : Answer) (items : List Tree) (made : MessageTree) → items ≡ a.parameters → made ≡ record { version = v; id = id; kind = a.kind; fields = a.fields; tail = []; children = forest items } → made ≡ message v id a
message_is v id a items made i e = rw (e, i) refl

pub capabilities_lawful : (v id : ℕ) → (v ≡ 1) ⊎ (v ≡ 2) → id < 2 ^ 32 → IsLawfulMessage (message v id capabilities)
unfolding capabilities general of_llrp regulatory band frequencies modes mode first_message_fault table_tests all_placed none_too_many none_missing rule_of message_rule param_rule number_of key_of set_of_kind fields_of tail_of groups_of is_tv body_octets
capabilities_lawful v id version small =
    let parts : AllLawful (forest capabilities.parameters) = (((((tt, success_lawful, tt), general_lawful.0, general_lawful.1), of_llrp_lawful, tt), regulatory_lawful.0, regulatory_lawful.1), air_lawful, tt) in
    is_lawful v id capabilities version small parts refl

pub configuration_lawful : (v id : ℕ) → (v ≡ 1) ⊎ (v ≡ 2) → id < 2 ^ 32 → IsLawfulMessage (message v id configuration)
unfolding configuration first_message_fault table_tests all_placed none_too_many none_missing rule_of message_rule param_rule number_of key_of set_of_kind fields_of tail_of groups_of is_tv body_octets
configuration_lawful v id version small =
    let parts : AllLawful (forest configuration.parameters) = ((((tt, success_lawful, tt), identification_lawful, tt), antenna_lawful 1 (lit< tt), tt), antenna_lawful 2 (lit< tt), tt) in
    is_lawful v id configuration version small parts refl

pub versions_lawful : (v id : ℕ) → (v ≡ 1) ⊎ (v ≡ 2) → id < 2 ^ 32 → IsLawfulMessage (message v id versions)
unfolding versions first_message_fault table_tests all_placed none_too_many none_missing rule_of message_rule param_rule number_of key_of set_of_kind fields_of tail_of groups_of is_tv body_octets
versions_lawful v id version small =
    let parts : AllLawful (forest versions.parameters) = (tt, success_lawful, tt) in
    is_lawful v id versions version small parts refl

access_lawful : (v id : ℕ) (kind : MsgKind) (fields : List ℕ) → (v ≡ 1) ⊎ (v ≡ 2) → id < 2 ^ 32
    → first_message_fault 1 kind [] [] (forest ((of_access kind fields).parameters)) ≡ None → IsLawfulMessage (message v id (of_access kind fields))
unfolding of_access
access_lawful v id kind fields version small passes =
    let parts : AllLawful (forest ((of_access kind fields).parameters)) = (tt, status_lawful fields, tt) in
    is_lawful v id (of_access kind fields) version small parts passes

pub deletion_lawful : (v id : ℕ) (fields : List ℕ) → (v ≡ 1) ⊎ (v ≡ 2) → id < 2 ^ 32 → IsLawfulMessage (message v id (of_access WholeDeleteAccessSpecResponse fields))
unfolding of_access first_message_fault table_tests all_placed none_too_many none_missing rule_of message_rule param_rule number_of key_of set_of_kind fields_of tail_of groups_of is_tv body_octets
deletion_lawful v id fields version small = access_lawful v id WholeDeleteAccessSpecResponse fields version small refl

pub enabling_lawful : (v id : ℕ) (fields : List ℕ) → (v ≡ 1) ⊎ (v ≡ 2) → id < 2 ^ 32 → IsLawfulMessage (message v id (of_access WholeEnableAccessSpecResponse fields))
unfolding of_access first_message_fault table_tests all_placed none_too_many none_missing rule_of message_rule param_rule number_of key_of set_of_kind fields_of tail_of groups_of is_tv body_octets
enabling_lawful v id fields version small = access_lawful v id WholeEnableAccessSpecResponse fields version small refl

pub disabling_lawful : (v id : ℕ) (fields : List ℕ) → (v ≡ 1) ⊎ (v ≡ 2) → id < 2 ^ 32 → IsLawfulMessage (message v id (of_access WholeDisableAccessSpecResponse fields))
unfolding of_access first_message_fault table_tests all_placed none_too_many none_missing rule_of message_rule param_rule number_of key_of set_of_kind fields_of tail_of groups_of is_tv body_octets
disabling_lawful v id fields version small = access_lawful v id WholeDisableAccessSpecResponse fields version small refl

pub listing_lawful : (v id : ℕ) (fields : List ℕ) → (v ≡ 1) ⊎ (v ≡ 2) → id < 2 ^ 32 → IsLawfulMessage (message v id (of_access WholeGetAccessSpecsResponse fields))
unfolding of_access first_message_fault table_tests all_placed none_too_many none_missing rule_of message_rule param_rule number_of key_of set_of_kind fields_of tail_of groups_of is_tv body_octets
listing_lawful v id fields version small = access_lawful v id WholeGetAccessSpecsResponse fields version small refl

-- ---- their parts, as the code makes them

pub access_items : (kind : MsgKind) (fields : List ℕ) (status : ℕ) (items : List Tree) (a : Tree) → items ≡ a ∷ [] → a ≡ parameter WholeLlrpStatus (status ∷ []) []
    → status ≡ status_of_fields fields → items ≡ (of_access kind fields).parameters
unfolding of_access
access_items kind fields status items a i p s = rw (i, p, s) refl

pub capabilities_items : (items : List Tree) (a b c d e : Tree) → items ≡ a ∷ b ∷ c ∷ d ∷ e ∷ [] → a ≡ success → b ≡ general → c ≡ of_llrp → d ≡ regulatory → e ≡ air → items ≡ capabilities.parameters
unfolding capabilities
capabilities_items items a b c d e i p q r s t = rw (i, p, q, r, s, t) refl

pub configuration_items : (items : List Tree) (a b c d : Tree) → items ≡ a ∷ b ∷ c ∷ d ∷ [] → a ≡ success → b ≡ identification → c ≡ antenna 1 → d ≡ antenna 2 → items ≡ configuration.parameters
unfolding configuration
configuration_items items a b c d i p q r s = rw (i, p, q, r, s) refl

pub versions_items : (items : List Tree) (a : Tree) → items ≡ a ∷ [] → a ≡ success → items ≡ versions.parameters
unfolding versions
versions_items items a i p = rw (i, p) refl
