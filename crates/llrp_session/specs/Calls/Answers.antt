-- What a simulated reader answers to the requests outside the profile that a general client begins with: the least that the tables of the whole
-- standard allow, and the same whatever part is asked for (LLRP 1.1, the chapters on versions, capabilities, configuration and AccessSpecs).
use Rattle.std.specs.Prelude.{ℕ, ◌==◌, if◌then◌else◌, List, [], ◌∷◌, Option, None, Some}
use Rattle.llrp_schema.specs.declared.kinds.MsgKind.{MsgKind}
use Rattle.llrp_schema.specs.declared.kinds.MsgKind.TheVariants.{WholeGetReaderCapabilities, WholeGetReaderCapabilitiesResponse, WholeGetReaderConfig, WholeGetReaderConfigResponse, WholeGetSupportedVersion, WholeGetSupportedVersionResponse, WholeDeleteAccessSpec, WholeDeleteAccessSpecResponse, WholeEnableAccessSpec, WholeEnableAccessSpecResponse, WholeDisableAccessSpec, WholeDisableAccessSpecResponse, WholeGetAccessSpecs, WholeGetAccessSpecsResponse}
use Rattle.llrp_schema.specs.declared.kinds.ParamKind.{ParamKind}
use Rattle.llrp_schema.specs.declared.kinds.ParamKind.TheVariants.{WholeLlrpStatus, WholeGeneralDeviceCapabilities, WholeReceiveSensitivityTableEntry, WholePerAntennaAirProtocol, WholeGpioCapabilities, WholeLlrpCapabilities, WholeRegulatoryCapabilities, WholeUhfBandCapabilities, WholeTransmitPowerLevelTableEntry, WholeFrequencyInformation, WholeFixedFrequencyTable, WholeC1G2LlrpCapabilities, WholeC1G2UhfRfModeTable, WholeC1G2UhfRfModeTableEntry, WholeIdentification, WholeAntennaProperties}
use Rattle.llrp_tree.specs.Tree.{Tree, MessageTree, forest}
use Rattle.llrp_session.specs.ReaderMessages.{parameter}

-- a parameter of these fields and this tail, which has no children
abbrev pub with_tail : ParamKind → List ℕ → List ℕ → Tree
with_tail kind fields tail = record { kind = kind; fields = fields; tail = tail; children = forest [] }

-- status 0
abbrev pub success : Tree
success = parameter WholeLlrpStatus (0 ∷ []) []

-- ---- capabilities

-- the antenna has one protocol, 1, which is that of EPCglobal Class 1 Gen 2
abbrev pub air_protocol : ℕ → Tree
air_protocol antenna = with_tail WholePerAntennaAirProtocol (antenna ∷ 1 ∷ []) (1 ∷ [])

-- two antennas whose properties cannot be set, a clock, no name of a maker or a model and no text; one sensitivity, and no ports
unfoldable pub general : Tree
general = parameter WholeGeneralDeviceCapabilities (2 ∷ 0 ∷ 1 ∷ 0 ∷ 0 ∷ [])
    (parameter WholeReceiveSensitivityTableEntry (1 ∷ 0 ∷ []) [] ∷ parameter WholeGpioCapabilities (0 ∷ 0 ∷ []) [] ∷ air_protocol 1 ∷ air_protocol 2 ∷ [])

-- none of the five abilities, eight priorities, and no limit to any number of specs, the last three of which are the tail
unfoldable pub of_llrp : Tree
of_llrp = with_tail WholeLlrpCapabilities (0 ∷ 0 ∷ 0 ∷ 0 ∷ 0 ∷ 8 ∷ 0 ∷ 0 ∷ 0 ∷ []) (0 ∷ 0 ∷ 0 ∷ 0 ∷ 0 ∷ 0 ∷ 0 ∷ 0 ∷ 0 ∷ 0 ∷ 0 ∷ 0 ∷ [])

-- mode 0: Miller 4 at 40,000 bits a second; in the tail PIE 1,500, and Tari 25,000 nanoseconds at least and at most, in steps of 0
unfoldable pub mode : Tree
mode = with_tail WholeC1G2UhfRfModeTableEntry (0 ∷ 0 ∷ 0 ∷ 2 ∷ 0 ∷ 0 ∷ 40000 ∷ []) (0 ∷ 0 ∷ 5 ∷ 220 ∷ 0 ∷ 0 ∷ 97 ∷ 168 ∷ 0 ∷ 0 ∷ 97 ∷ 168 ∷ 0 ∷ 0 ∷ 0 ∷ 0 ∷ [])

unfoldable pub modes : Tree
modes = parameter WholeC1G2UhfRfModeTable [] (mode ∷ [])

-- one fixed frequency of 866,300 kHz
unfoldable pub frequencies : Tree
frequencies = parameter WholeFrequencyInformation (0 ∷ []) (with_tail WholeFixedFrequencyTable (1 ∷ []) (0 ∷ 13 ∷ 55 ∷ 252 ∷ []) ∷ [])

-- one power, of 30 dBm
unfoldable pub band : Tree
band = parameter WholeUhfBandCapabilities [] (parameter WholeTransmitPowerLevelTableEntry (1 ∷ 3000 ∷ []) [] ∷ frequencies ∷ modes ∷ [])

-- of no country and no standard
unfoldable pub regulatory : Tree
regulatory = parameter WholeRegulatoryCapabilities (0 ∷ 0 ∷ []) (band ∷ [])

-- none of the six abilities, and no filters
abbrev pub air : Tree
air = parameter WholeC1G2LlrpCapabilities (0 ∷ 0 ∷ 0 ∷ 0 ∷ 0 ∷ 0 ∷ 0 ∷ []) []

-- ---- configuration

-- an identification of eight octets 0, which is an EUI-64
abbrev pub identification : Tree
identification = with_tail WholeIdentification (0 ∷ 8 ∷ []) (0 ∷ 0 ∷ 0 ∷ 0 ∷ 0 ∷ 0 ∷ 0 ∷ 0 ∷ [])

-- a connected antenna of gain 0
abbrev pub antenna : ℕ → Tree
antenna number = parameter WholeAntennaProperties (1 ∷ number ∷ 0 ∷ []) []

-- ---- the answers

-- the kind, the fields and the parameters of an answer
pub record Answer : Type 0 where
  pub kind : MsgKind
  pub fields : List ℕ
  pub parameters : List Tree

unfoldable pub capabilities : Answer
capabilities = record { kind = WholeGetReaderCapabilitiesResponse; fields = []; parameters = success ∷ general ∷ of_llrp ∷ regulatory ∷ air ∷ [] }

unfoldable pub configuration : Answer
configuration = record { kind = WholeGetReaderConfigResponse; fields = []; parameters = success ∷ identification ∷ antenna 1 ∷ antenna 2 ∷ [] }

-- version 2, which is LLRP 1.1, is in use and is the greatest
unfoldable pub versions : Answer
versions = record { kind = WholeGetSupportedVersionResponse; fields = 2 ∷ 2 ∷ []; parameters = success ∷ [] }

-- There are no AccessSpecs. So what is asked of all of them, which is the id 0, is done, with M_Success, and for any other id there is none, which
-- is M_FieldError, 101.
abbrev pub status_for : (id : ℕ) → ℕ
status_for id = if id == 0 then 0 else 101

abbrev pub status_of_fields : List ℕ → ℕ
status_of_fields [] = 0
status_of_fields (id ∷ fields) = status_for id

unfoldable pub of_access : MsgKind → List ℕ → Answer
of_access kind fields = record { kind = kind; fields = []; parameters = parameter WholeLlrpStatus (status_of_fields fields ∷ []) [] ∷ [] }

-- the answer to a message of this kind with these fields
abbrev pub answer_to : MsgKind → Option (List ℕ → Answer)
answer_to WholeGetReaderCapabilities = Some (λ fields. capabilities)
answer_to WholeGetReaderConfig = Some (λ fields. configuration)
answer_to WholeGetSupportedVersion = Some (λ fields. versions)
answer_to WholeDeleteAccessSpec = Some (of_access WholeDeleteAccessSpecResponse)
answer_to WholeEnableAccessSpec = Some (of_access WholeEnableAccessSpecResponse)
answer_to WholeDisableAccessSpec = Some (of_access WholeDisableAccessSpecResponse)
answer_to WholeGetAccessSpecs = Some (of_access WholeGetAccessSpecsResponse)
answer_to _ = None

-- an answer as a message
abbrev pub message : (version id : ℕ) → Answer → MessageTree
message version id a = record { version = version; id = id; kind = a.kind; fields = a.fields; tail = []; children = forest a.parameters }

-- with the version and the id of the message that it answers
abbrev pub answering : MessageTree → Option (List ℕ → Answer) → Option MessageTree
answering request None = None
answering request (Some a) = Some (message request.version request.id (a request.fields))

-- the answer to a message, if it is one of these requests
unfoldable pub answer_of : MessageTree → Option MessageTree
answer_of m = answering m (answer_to m.kind)
