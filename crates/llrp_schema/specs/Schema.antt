-- The messages and parameters of LLRP 1.1, and those of its profile: each kind's number, name, fields, tail and groups of children, one row a kind.
use Prim.Native.String.{String}
use Rattle.std.specs.Prelude.{ℕ, Bool, true, false, not, List, [], ◌∷◌, codes, Option, Some, None, filter, find, sum_by, ◌^◌, ◌+◌, ◌-◌, ◌==◌, nat_lt}
use Rattle.llrp_schema.specs.declared.kinds.MsgKind.{MsgKind}
use Rattle.llrp_schema.specs.declared.kinds.MsgKind.TheVariants.{SetReaderConfig, CloseConnectionResponse, SetReaderConfigResponse, CloseConnection, AddRoSpec, DeleteRoSpec, StartRoSpec, StopRoSpec, EnableRoSpec, DisableRoSpec, GetRoSpecs, AddRoSpecResponse, DeleteRoSpecResponse, StartRoSpecResponse, StopRoSpecResponse, EnableRoSpecResponse, DisableRoSpecResponse, GetRoSpecsResponse, GetReport, RoAccessReport, Keepalive, ReaderEventNotification, EnableEventsAndReports, KeepaliveAck, ErrorMessage, WholeGetReaderCapabilities, WholeGetReaderConfig, WholeSetReaderConfig, WholeCloseConnectionResponse, WholeGetReaderCapabilitiesResponse, WholeGetReaderConfigResponse, WholeSetReaderConfigResponse, WholeCloseConnection, WholeAddRoSpec, WholeDeleteRoSpec, WholeStartRoSpec, WholeStopRoSpec, WholeEnableRoSpec, WholeDisableRoSpec, WholeGetRoSpecs, WholeAddRoSpecResponse, WholeDeleteRoSpecResponse, WholeStartRoSpecResponse, WholeStopRoSpecResponse, WholeEnableRoSpecResponse, WholeDisableRoSpecResponse, WholeGetRoSpecsResponse, WholeAddAccessSpec, WholeDeleteAccessSpec, WholeEnableAccessSpec, WholeDisableAccessSpec, WholeGetAccessSpecs, WholeClientRequestOp, WholeGetSupportedVersion, WholeSetProtocolVersion, WholeAddAccessSpecResponse, WholeDeleteAccessSpecResponse, WholeEnableAccessSpecResponse, WholeDisableAccessSpecResponse, WholeGetAccessSpecsResponse, WholeClientRequestOpResponse, WholeGetSupportedVersionResponse, WholeSetProtocolVersionResponse, WholeGetReport, WholeRoAccessReport, WholeKeepalive, WholeReaderEventNotification, WholeEnableEventsAndReports, WholeKeepaliveAck, WholeErrorMessage, WholeCustomMessage}
use Rattle.llrp_schema.specs.declared.kinds.ParamKind.{ParamKind}
use Rattle.llrp_schema.specs.declared.kinds.ParamKind.TheVariants.{AntennaId, FirstSeenTimestampUtc, FirstSeenTimestampUptime, LastSeenTimestampUtc, LastSeenTimestampUptime, PeakRssi, ChannelIndex, TagSeenCount, RoSpecId, InventoryParameterSpecId, C1G2Crc, C1G2Pc, Epc96, SpecIndex, AccessSpecId, UtcTimestamp, Uptime, RoSpec, RoBoundarySpec, RoSpecStartTrigger, PeriodicTriggerValue, GpiTriggerValue, RoSpecStopTrigger, AiSpec, AiSpecStopTrigger, TagObservationTrigger, InventoryParameterSpec, KeepaliveSpec, AntennaConfiguration, RfReceiver, RfTransmitter, EventsAndReports, RoReportSpec, TagReportContentSelector, TagReportData, EpcData, ReaderEventNotificationSpec, EventNotificationState, ReaderEventNotificationData, GpiEvent, RoSpecEvent, ReportBufferLevelWarningEvent, ReportBufferOverflowErrorEvent, AiSpecEvent, AntennaEvent, ConnectionAttemptEvent, ConnectionCloseEvent, LlrpStatus, FieldError, ParameterError, C1G2InventoryCommand, C1G2RfControl, C1G2SingulationControl, C1G2EpcMemorySelector, WholeAntennaId, WholeFirstSeenTimestampUtc, WholeFirstSeenTimestampUptime, WholeLastSeenTimestampUtc, WholeLastSeenTimestampUptime, WholePeakRssi, WholeChannelIndex, WholeTagSeenCount, WholeRoSpecId, WholeInventoryParameterSpecId, WholeC1G2Crc, WholeC1G2Pc, WholeEpc96, WholeSpecIndex, WholeClientRequestOpSpecResult, WholeAccessSpecId, WholeOpSpecID, WholeC1G2SingulationDetails, WholeC1g2xpcw1, WholeC1g2xpcw2, WholeUtcTimestamp, WholeUptime, WholeGeneralDeviceCapabilities, WholeReceiveSensitivityTableEntry, WholePerAntennaAirProtocol, WholeGpioCapabilities, WholeLlrpCapabilities, WholeRegulatoryCapabilities, WholeUhfBandCapabilities, WholeTransmitPowerLevelTableEntry, WholeFrequencyInformation, WholeFrequencyHopTable, WholeFixedFrequencyTable, WholePerAntennaReceiveSensitivityRange, WholeRoSpec, WholeRoBoundarySpec, WholeRoSpecStartTrigger, WholePeriodicTriggerValue, WholeGpiTriggerValue, WholeRoSpecStopTrigger, WholeAiSpec, WholeAiSpecStopTrigger, WholeTagObservationTrigger, WholeInventoryParameterSpec, WholeRfSurveySpec, WholeRfSurveySpecStopTrigger, WholeAccessSpec, WholeAccessSpecStopTrigger, WholeAccessCommand, WholeClientRequestOpSpec, WholeClientRequestResponse, WholeLlrpConfigurationStateValue, WholeIdentification, WholeGpoWriteData, WholeKeepaliveSpec, WholeAntennaProperties, WholeAntennaConfiguration, WholeRfReceiver, WholeRfTransmitter, WholeGpiPortCurrentState, WholeEventsAndReports, WholeRoReportSpec, WholeTagReportContentSelector, WholeAccessReportSpec, WholeTagReportData, WholeEpcData, WholeRfSurveyReportData, WholeFrequencyRssiLevelEntry, WholeReaderEventNotificationSpec, WholeEventNotificationState, WholeReaderEventNotificationData, WholeHoppingEvent, WholeGpiEvent, WholeRoSpecEvent, WholeReportBufferLevelWarningEvent, WholeReportBufferOverflowErrorEvent, WholeReaderExceptionEvent, WholeRfSurveyEvent, WholeAiSpecEvent, WholeAntennaEvent, WholeConnectionAttemptEvent, WholeConnectionCloseEvent, WholeLlrpStatus, WholeFieldError, WholeParameterError, WholeC1G2LlrpCapabilities, WholeC1G2UhfRfModeTable, WholeC1G2UhfRfModeTableEntry, WholeC1G2InventoryCommand, WholeC1G2Filter, WholeC1G2TagInventoryMask, WholeC1G2TagInventoryStateAwareFilterAction, WholeC1G2TagInventoryStateUnawareFilterAction, WholeC1G2RfControl, WholeC1G2SingulationControl, WholeC1G2TagInventoryStateAwareSingulationAction, WholeC1G2TagSpec, WholeC1G2TargetTag, WholeC1G2Read, WholeC1G2Write, WholeC1G2Kill, WholeC1G2Lock, WholeC1G2LockPayload, WholeC1G2BlockErase, WholeC1G2BlockWrite, WholeC1G2EpcMemorySelector, WholeC1G2ReadOpSpecResult, WholeC1G2WriteOpSpecResult, WholeC1G2KillOpSpecResult, WholeC1G2LockOpSpecResult, WholeC1G2BlockEraseOpSpecResult, WholeC1G2BlockWriteOpSpecResult, WholeLoopSpec, WholeSpecLoopEvent, WholeC1G2Recommission, WholeC1G2BlockPermalock, WholeC1G2GetBlockPermalockStatus, WholeC1G2RecommissionOpSpecResult, WholeC1G2BlockPermalockOpSpecResult, WholeC1G2GetBlockPermalockStatusOpSpecResult, WholeMaximumReceiveSensitivity, WholeRfSurveyFrequencyCapabilities, WholeCustom}
use Rattle.llrp_schema.specs.declared.kinds.Kind.{Kind}
use Rattle.llrp_schema.specs.declared.kinds.Kind.TheVariants.{Message, Parameter}
use Rattle.llrp_schema.specs.declared.kinds.KindSet.{KindSet}
use Rattle.llrp_schema.specs.declared.kinds.KindSet.TheVariants.{Profile, Standard}
use Rattle.llrp_schema.specs.declared.kinds.Tail.{Tail}
use Rattle.llrp_schema.specs.declared.kinds.Tail.TheVariants.{Absent, Words, Text, Bits, Data}
use Rattle.std.specs.List.{list_any}

-- a field: its name, its width in bits, whether it is reserved, its greatest lawful value, and whether its bits are a signed number
pub record FieldRule : Type 0 where
  pub name : List ℕ
  pub width : ℕ
  pub reserved : Bool
  pub greatest : ℕ
  pub signed : Bool

-- kinds of children that are counted together, and the least and the most of them that a parent has
pub record GroupRule : Type 0 where
  pub members : List ParamKind
  pub least : ℕ
  pub most : Option ℕ

-- a row of the tables
pub record KindRule : Type 0 where
  pub set : KindSet
  pub number : ℕ
  pub name : List ℕ
  pub fields : List FieldRule
  pub tail : Tail
  pub groups : List GroupRule

-- a field whose lawful values go from 0 to the greatest
abbrev pub field_to : String → ℕ → ℕ → FieldRule
field_to name width greatest = record { name = codes name; width = width; reserved = false; greatest = greatest; signed = false }

-- a field of which every value is lawful
abbrev pub any_field : String → ℕ → FieldRule
any_field name width = field_to name width (2 ^ width - 1)

-- a field whose bits are a number in two's complement
abbrev pub signed : String → ℕ → FieldRule
signed name width = record { name = codes name; width = width; reserved = false; greatest = 2 ^ width - 1; signed = true }

-- reserved bits, which are zero
abbrev pub reserved : ℕ → FieldRule
reserved width = record { name = codes "R"; width = width; reserved = true; greatest = 0; signed = false }

-- exactly one child, which is of one of the kinds
abbrev pub one_of : List ParamKind → GroupRule
one_of kinds = record { members = kinds; least = 1; most = Some 1 }

-- exactly one child of the kind
abbrev pub one : ParamKind → GroupRule
one kind = one_of (kind ∷ [])

-- one child of the kind or more
abbrev pub one_or_more : ParamKind → GroupRule
one_or_more kind = record { members = kind ∷ []; least = 1; most = None }

-- one child or more, each of one of the kinds
abbrev pub some_of : List ParamKind → GroupRule
some_of kinds = record { members = kinds; least = 1; most = None }

-- children of the kinds in any number
abbrev pub any_of : List ParamKind → GroupRule
any_of kinds = record { members = kinds; least = 0; most = None }

-- one child of the kind or none
abbrev pub at_most_one : ParamKind → GroupRule
at_most_one kind = record { members = kind ∷ []; least = 0; most = Some 1 }

-- children of the kind in any number
abbrev pub any_number : ParamKind → GroupRule
any_number kind = record { members = kind ∷ []; least = 0; most = None }

-- a parameter with type, length and value: its number, name, fields, tail and groups
abbrev tlv : ℕ → String → List FieldRule → Tail → List GroupRule → KindRule
tlv number name fields tail groups = record { set = Profile; number = number; name = codes name; fields = fields; tail = tail; groups = groups }

-- a message: its number, name, fields and groups
abbrev message : ℕ → String → List FieldRule → List GroupRule → KindRule
message number name fields groups = tlv number name fields Absent groups

-- a message with data after its fields, up to its end: its number, name and fields
abbrev message_with_data : ℕ → String → List FieldRule → KindRule
message_with_data number name fields = tlv number name fields Data []

-- a parameter with type and value: its number, its name, which is that of its one field, and the field's width
abbrev tv : ℕ → String → ℕ → KindRule
tv number name width = tlv number name (any_field name width ∷ []) Absent []

-- a parameter with type and value whose field is signed
abbrev signed_tv : ℕ → String → ℕ → KindRule
signed_tv number name width = tlv number name (signed name width ∷ []) Absent []

-- a row of the whole standard
abbrev of_whole : KindRule → KindRule
of_whole rule = record { set = Standard; number = rule.number; name = rule.name; fields = rule.fields; tail = rule.tail; groups = rule.groups }

-- the messages (LLRP 1.1, section 17.1)
unfoldable pub message_rule : MsgKind → KindRule
message_rule SetReaderConfig = message 3 "SET_READER_CONFIG"
    (any_field "ResetToFactoryDefault" 1 ∷ reserved 7 ∷ [])
    (at_most_one KeepaliveSpec ∷ at_most_one EventsAndReports ∷ at_most_one RoReportSpec ∷
    at_most_one ReaderEventNotificationSpec ∷ any_number AntennaConfiguration ∷ [])
message_rule CloseConnectionResponse = message 4 "CLOSE_CONNECTION_RESPONSE" []
    (one LlrpStatus ∷ [])
message_rule SetReaderConfigResponse = message 13 "SET_READER_CONFIG_RESPONSE" []
    (one LlrpStatus ∷ [])
message_rule CloseConnection = message 14 "CLOSE_CONNECTION" [] []
message_rule AddRoSpec = message 20 "ADD_ROSPEC" [] (one RoSpec ∷ [])
message_rule DeleteRoSpec = message 21 "DELETE_ROSPEC" (any_field "ROSpecID" 32 ∷ []) []
message_rule StartRoSpec = message 22 "START_ROSPEC" (any_field "ROSpecID" 32 ∷ []) []
message_rule StopRoSpec = message 23 "STOP_ROSPEC" (any_field "ROSpecID" 32 ∷ []) []
message_rule EnableRoSpec = message 24 "ENABLE_ROSPEC" (any_field "ROSpecID" 32 ∷ []) []
message_rule DisableRoSpec = message 25 "DISABLE_ROSPEC" (any_field "ROSpecID" 32 ∷ []) []
message_rule GetRoSpecs = message 26 "GET_ROSPECS" [] []
message_rule AddRoSpecResponse = message 30 "ADD_ROSPEC_RESPONSE" [] (one LlrpStatus ∷ [])
message_rule DeleteRoSpecResponse = message 31 "DELETE_ROSPEC_RESPONSE" [] (one LlrpStatus ∷ [])
message_rule StartRoSpecResponse = message 32 "START_ROSPEC_RESPONSE" [] (one LlrpStatus ∷ [])
message_rule StopRoSpecResponse = message 33 "STOP_ROSPEC_RESPONSE" [] (one LlrpStatus ∷ [])
message_rule EnableRoSpecResponse = message 34 "ENABLE_ROSPEC_RESPONSE" [] (one LlrpStatus ∷ [])
message_rule DisableRoSpecResponse = message 35 "DISABLE_ROSPEC_RESPONSE" [] (one LlrpStatus ∷ [])
message_rule GetRoSpecsResponse = message 36 "GET_ROSPECS_RESPONSE" []
    (one LlrpStatus ∷ any_number RoSpec ∷ [])
message_rule GetReport = message 60 "GET_REPORT" [] []
message_rule RoAccessReport = message 61 "RO_ACCESS_REPORT" [] (any_number TagReportData ∷ [])
message_rule Keepalive = message 62 "KEEPALIVE" [] []
message_rule ReaderEventNotification = message 63 "READER_EVENT_NOTIFICATION" []
    (one ReaderEventNotificationData ∷ [])
message_rule EnableEventsAndReports = message 64 "ENABLE_EVENTS_AND_REPORTS" [] []
message_rule KeepaliveAck = message 72 "KEEPALIVE_ACK" [] []
message_rule ErrorMessage = message 100 "ERROR_MESSAGE" [] (one LlrpStatus ∷ [])
message_rule WholeGetReaderCapabilities = of_whole (message 1 "GET_READER_CAPABILITIES" (field_to "RequestedData" 8 4 ∷ [])
    (any_number WholeCustom ∷ []))
message_rule WholeGetReaderConfig = of_whole (message 2 "GET_READER_CONFIG" (any_field "AntennaID" 16 ∷ field_to "RequestedData" 8 11 ∷ any_field "GPIPortNum" 16 ∷ any_field "GPOPortNum" 16 ∷ [])
    (any_number WholeCustom ∷ []))
message_rule WholeSetReaderConfig = of_whole (message 3 "SET_READER_CONFIG" (any_field "ResetToFactoryDefault" 1 ∷ reserved 7 ∷ [])
    (at_most_one WholeKeepaliveSpec ∷ at_most_one WholeEventsAndReports ∷ at_most_one WholeRoReportSpec ∷ at_most_one WholeReaderEventNotificationSpec ∷ any_number WholeAntennaConfiguration ∷ any_number WholeAntennaProperties ∷ at_most_one WholeAccessReportSpec ∷ any_number WholeGpoWriteData ∷ any_number WholeGpiPortCurrentState ∷ any_number WholeCustom ∷ []))
message_rule WholeCloseConnectionResponse = of_whole (message 4 "CLOSE_CONNECTION_RESPONSE" []
    (one WholeLlrpStatus ∷ []))
message_rule WholeGetReaderCapabilitiesResponse = of_whole (message 11 "GET_READER_CAPABILITIES_RESPONSE" []
    (one WholeLlrpStatus ∷ at_most_one WholeGeneralDeviceCapabilities ∷ at_most_one WholeLlrpCapabilities ∷ at_most_one WholeRegulatoryCapabilities ∷ at_most_one WholeC1G2LlrpCapabilities ∷ any_number WholeCustom ∷ []))
message_rule WholeGetReaderConfigResponse = of_whole (message 12 "GET_READER_CONFIG_RESPONSE" []
    (one WholeLlrpStatus ∷ at_most_one WholeIdentification ∷ any_number WholeAntennaProperties ∷ any_number WholeAntennaConfiguration ∷ at_most_one WholeReaderEventNotificationSpec ∷ at_most_one WholeRoReportSpec ∷ at_most_one WholeAccessReportSpec ∷ at_most_one WholeLlrpConfigurationStateValue ∷ at_most_one WholeKeepaliveSpec ∷ any_number WholeGpiPortCurrentState ∷ any_number WholeGpoWriteData ∷ at_most_one WholeEventsAndReports ∷ any_number WholeCustom ∷ []))
message_rule WholeSetReaderConfigResponse = of_whole (message 13 "SET_READER_CONFIG_RESPONSE" []
    (one WholeLlrpStatus ∷ []))
message_rule WholeCloseConnection = of_whole (message 14 "CLOSE_CONNECTION" []
    [])
message_rule WholeAddRoSpec = of_whole (message 20 "ADD_ROSPEC" []
    (one WholeRoSpec ∷ []))
message_rule WholeDeleteRoSpec = of_whole (message 21 "DELETE_ROSPEC" (any_field "ROSpecID" 32 ∷ [])
    [])
message_rule WholeStartRoSpec = of_whole (message 22 "START_ROSPEC" (any_field "ROSpecID" 32 ∷ [])
    [])
message_rule WholeStopRoSpec = of_whole (message 23 "STOP_ROSPEC" (any_field "ROSpecID" 32 ∷ [])
    [])
message_rule WholeEnableRoSpec = of_whole (message 24 "ENABLE_ROSPEC" (any_field "ROSpecID" 32 ∷ [])
    [])
message_rule WholeDisableRoSpec = of_whole (message 25 "DISABLE_ROSPEC" (any_field "ROSpecID" 32 ∷ [])
    [])
message_rule WholeGetRoSpecs = of_whole (message 26 "GET_ROSPECS" []
    [])
message_rule WholeAddRoSpecResponse = of_whole (message 30 "ADD_ROSPEC_RESPONSE" []
    (one WholeLlrpStatus ∷ []))
message_rule WholeDeleteRoSpecResponse = of_whole (message 31 "DELETE_ROSPEC_RESPONSE" []
    (one WholeLlrpStatus ∷ []))
message_rule WholeStartRoSpecResponse = of_whole (message 32 "START_ROSPEC_RESPONSE" []
    (one WholeLlrpStatus ∷ []))
message_rule WholeStopRoSpecResponse = of_whole (message 33 "STOP_ROSPEC_RESPONSE" []
    (one WholeLlrpStatus ∷ []))
message_rule WholeEnableRoSpecResponse = of_whole (message 34 "ENABLE_ROSPEC_RESPONSE" []
    (one WholeLlrpStatus ∷ []))
message_rule WholeDisableRoSpecResponse = of_whole (message 35 "DISABLE_ROSPEC_RESPONSE" []
    (one WholeLlrpStatus ∷ []))
message_rule WholeGetRoSpecsResponse = of_whole (message 36 "GET_ROSPECS_RESPONSE" []
    (one WholeLlrpStatus ∷ any_number WholeRoSpec ∷ []))
message_rule WholeAddAccessSpec = of_whole (message 40 "ADD_ACCESSSPEC" []
    (one WholeAccessSpec ∷ []))
message_rule WholeDeleteAccessSpec = of_whole (message 41 "DELETE_ACCESSSPEC" (any_field "AccessSpecID" 32 ∷ [])
    [])
message_rule WholeEnableAccessSpec = of_whole (message 42 "ENABLE_ACCESSSPEC" (any_field "AccessSpecID" 32 ∷ [])
    [])
message_rule WholeDisableAccessSpec = of_whole (message 43 "DISABLE_ACCESSSPEC" (any_field "AccessSpecID" 32 ∷ [])
    [])
message_rule WholeGetAccessSpecs = of_whole (message 44 "GET_ACCESSSPECS" []
    [])
message_rule WholeClientRequestOp = of_whole (message 45 "CLIENT_REQUEST_OP" []
    (one WholeTagReportData ∷ []))
message_rule WholeGetSupportedVersion = of_whole (message 46 "GET_SUPPORTED_VERSION" []
    [])
message_rule WholeSetProtocolVersion = of_whole (message 47 "SET_PROTOCOL_VERSION" (any_field "ProtocolVersion" 8 ∷ [])
    [])
message_rule WholeAddAccessSpecResponse = of_whole (message 50 "ADD_ACCESSSPEC_RESPONSE" []
    (one WholeLlrpStatus ∷ []))
message_rule WholeDeleteAccessSpecResponse = of_whole (message 51 "DELETE_ACCESSSPEC_RESPONSE" []
    (one WholeLlrpStatus ∷ []))
message_rule WholeEnableAccessSpecResponse = of_whole (message 52 "ENABLE_ACCESSSPEC_RESPONSE" []
    (one WholeLlrpStatus ∷ []))
message_rule WholeDisableAccessSpecResponse = of_whole (message 53 "DISABLE_ACCESSSPEC_RESPONSE" []
    (one WholeLlrpStatus ∷ []))
message_rule WholeGetAccessSpecsResponse = of_whole (message 54 "GET_ACCESSSPECS_RESPONSE" []
    (one WholeLlrpStatus ∷ any_number WholeAccessSpec ∷ []))
message_rule WholeClientRequestOpResponse = of_whole (message 55 "CLIENT_REQUEST_OP_RESPONSE" []
    (one WholeClientRequestResponse ∷ []))
message_rule WholeGetSupportedVersionResponse = of_whole (message 56 "GET_SUPPORTED_VERSION_RESPONSE" (any_field "CurrentVersion" 8 ∷ any_field "SupportedVersion" 8 ∷ [])
    (one WholeLlrpStatus ∷ []))
message_rule WholeSetProtocolVersionResponse = of_whole (message 57 "SET_PROTOCOL_VERSION_RESPONSE" []
    (one WholeLlrpStatus ∷ []))
message_rule WholeGetReport = of_whole (message 60 "GET_REPORT" []
    [])
message_rule WholeRoAccessReport = of_whole (message 61 "RO_ACCESS_REPORT" []
    (any_number WholeTagReportData ∷ any_number WholeRfSurveyReportData ∷ any_number WholeCustom ∷ []))
message_rule WholeKeepalive = of_whole (message 62 "KEEPALIVE" []
    [])
message_rule WholeReaderEventNotification = of_whole (message 63 "READER_EVENT_NOTIFICATION" []
    (one WholeReaderEventNotificationData ∷ []))
message_rule WholeEnableEventsAndReports = of_whole (message 64 "ENABLE_EVENTS_AND_REPORTS" []
    [])
message_rule WholeKeepaliveAck = of_whole (message 72 "KEEPALIVE_ACK" []
    [])
message_rule WholeErrorMessage = of_whole (message 100 "ERROR_MESSAGE" []
    (one WholeLlrpStatus ∷ []))
message_rule WholeCustomMessage = of_whole (message_with_data 1023 "CUSTOM_MESSAGE" (any_field "VendorIdentifier" 32 ∷ any_field "MessageSubtype" 8 ∷ []))

-- the parameters (LLRP 1.1, section 17.2)
unfoldable pub param_rule : ParamKind → KindRule
param_rule AntennaId = tv 1 "AntennaID" 16
param_rule FirstSeenTimestampUtc = tv 2 "FirstSeenTimestampUTC" 64
param_rule FirstSeenTimestampUptime = tv 3 "FirstSeenTimestampUptime" 64
param_rule LastSeenTimestampUtc = tv 4 "LastSeenTimestampUTC" 64
param_rule LastSeenTimestampUptime = tv 5 "LastSeenTimestampUptime" 64
param_rule PeakRssi = signed_tv 6 "PeakRSSI" 8
param_rule ChannelIndex = tv 7 "ChannelIndex" 16
param_rule TagSeenCount = tv 8 "TagSeenCount" 16
param_rule RoSpecId = tv 9 "ROSpecID" 32
param_rule InventoryParameterSpecId = tv 10 "InventoryParameterSpecID" 16
param_rule C1G2Crc = tv 11 "C1G2-CRC" 16
param_rule C1G2Pc = tv 12 "C1G2-PC" 16
param_rule Epc96 = tv 13 "EPC-96" 96
param_rule SpecIndex = tv 14 "SpecIndex" 16
param_rule AccessSpecId = tv 16 "AccessSpecID" 32
param_rule UtcTimestamp = tlv 128 "UTCTimestamp" (any_field "Microseconds" 64 ∷ []) Absent []
param_rule Uptime = tlv 129 "Uptime" (any_field "Microseconds" 64 ∷ []) Absent []
param_rule RoSpec = tlv 177 "ROSpec"
    (any_field "ROSpecID" 32 ∷ field_to "Priority" 8 7 ∷ field_to "CurrentState" 8 2 ∷ []) Absent
    (one RoBoundarySpec ∷ one_or_more AiSpec ∷ at_most_one RoReportSpec ∷ [])
param_rule RoBoundarySpec = tlv 178 "ROBoundarySpec" [] Absent
    (one RoSpecStartTrigger ∷ one RoSpecStopTrigger ∷ [])
param_rule RoSpecStartTrigger = tlv 179 "ROSpecStartTrigger" (field_to "Type" 8 3 ∷ []) Absent
    (at_most_one PeriodicTriggerValue ∷ at_most_one GpiTriggerValue ∷ [])
param_rule PeriodicTriggerValue = tlv 180 "PeriodicTriggerValue"
    (any_field "Offset" 32 ∷ any_field "Period" 32 ∷ []) Absent (at_most_one UtcTimestamp ∷ [])
param_rule GpiTriggerValue = tlv 181 "GPITriggerValue"
    (any_field "Port" 16 ∷ any_field "Event" 1 ∷ reserved 7 ∷ any_field "Timeout" 32 ∷ []) Absent []
param_rule RoSpecStopTrigger = tlv 182 "ROSpecStopTrigger"
    (field_to "Type" 8 2 ∷ any_field "Duration" 32 ∷ []) Absent (at_most_one GpiTriggerValue ∷ [])
param_rule AiSpec = tlv 183 "AISpec" [] Words
    (one AiSpecStopTrigger ∷ one_or_more InventoryParameterSpec ∷ [])
param_rule AiSpecStopTrigger = tlv 184 "AISpecStopTrigger"
    (field_to "Type" 8 3 ∷ any_field "Duration" 32 ∷ []) Absent
    (at_most_one GpiTriggerValue ∷ at_most_one TagObservationTrigger ∷ [])
param_rule TagObservationTrigger = tlv 185 "TagObservationTrigger"
    (any_field "Type" 8 ∷ reserved 8 ∷ any_field "NumberOfTags" 16 ∷ any_field "NumberOfAttempts" 16 ∷
    any_field "T" 16 ∷ any_field "Timeout" 32 ∷ []) Absent []
param_rule InventoryParameterSpec = tlv 186 "InventoryParameterSpec"
    (any_field "ID" 16 ∷ any_field "ProtocolID" 8 ∷ []) Absent (any_number AntennaConfiguration ∷ [])
param_rule KeepaliveSpec = tlv 220 "KeepaliveSpec" (field_to "Type" 8 1 ∷ any_field "Period" 32 ∷ [])
    Absent []
param_rule AntennaConfiguration = tlv 222 "AntennaConfiguration" (any_field "AntennaID" 16 ∷ []) Absent
    (at_most_one RfReceiver ∷ at_most_one RfTransmitter ∷ any_number C1G2InventoryCommand ∷ [])
param_rule RfReceiver = tlv 223 "RFReceiver" (any_field "Sensitivity" 16 ∷ []) Absent []
param_rule RfTransmitter = tlv 224 "RFTransmitter"
    (any_field "HopTableID" 16 ∷ any_field "ChannelIndex" 16 ∷ any_field "Power" 16 ∷ []) Absent []
param_rule EventsAndReports = tlv 226 "EventsAndReports" (any_field "Hold" 1 ∷ reserved 7 ∷ []) Absent
    []
param_rule RoReportSpec = tlv 237 "ROReportSpec" (any_field "Trigger" 8 ∷ any_field "N" 16 ∷ []) Absent
    (one TagReportContentSelector ∷ [])
param_rule TagReportContentSelector = tlv 238 "TagReportContentSelector"
    (any_field "ROSpecID" 1 ∷ any_field "SpecIndex" 1 ∷ any_field "InventoryParameterSpecID" 1 ∷
    any_field "AntennaID" 1 ∷ any_field "ChannelIndex" 1 ∷ any_field "PeakRSSI" 1 ∷ any_field "FirstSeen" 1 ∷
    any_field "LastSeen" 1 ∷ any_field "TagSeenCount" 1 ∷ any_field "AccessSpecID" 1 ∷ reserved 6 ∷ []) Absent
    (any_number C1G2EpcMemorySelector ∷ [])
param_rule TagReportData = tlv 240 "TagReportData" [] Absent
    (one_of (Epc96 ∷ EpcData ∷ []) ∷ at_most_one AntennaId ∷ at_most_one FirstSeenTimestampUtc ∷
    at_most_one FirstSeenTimestampUptime ∷ at_most_one LastSeenTimestampUtc ∷
    at_most_one LastSeenTimestampUptime ∷ at_most_one PeakRssi ∷ at_most_one ChannelIndex ∷
    at_most_one TagSeenCount ∷ at_most_one RoSpecId ∷ at_most_one InventoryParameterSpecId ∷
    at_most_one SpecIndex ∷ at_most_one AccessSpecId ∷ any_number C1G2Crc ∷ any_number C1G2Pc ∷ [])
param_rule EpcData = tlv 241 "EPCData" (any_field "BitCount" 16 ∷ []) Bits []
param_rule ReaderEventNotificationSpec = tlv 244 "ReaderEventNotificationSpec" [] Absent
    (one_or_more EventNotificationState ∷ [])
param_rule EventNotificationState = tlv 245 "EventNotificationState"
    (any_field "EventType" 16 ∷ any_field "State" 1 ∷ reserved 7 ∷ []) Absent []
param_rule ReaderEventNotificationData = tlv 246 "ReaderEventNotificationData" [] Absent
    (one_of (UtcTimestamp ∷ Uptime ∷ []) ∷ at_most_one GpiEvent ∷ at_most_one RoSpecEvent ∷
    at_most_one ReportBufferLevelWarningEvent ∷ at_most_one ReportBufferOverflowErrorEvent ∷
    at_most_one AiSpecEvent ∷ at_most_one AntennaEvent ∷ at_most_one ConnectionAttemptEvent ∷
    at_most_one ConnectionCloseEvent ∷ [])
param_rule GpiEvent = tlv 248 "GPIEvent" (any_field "Port" 16 ∷ any_field "Event" 1 ∷ reserved 7 ∷ [])
    Absent []
param_rule RoSpecEvent = tlv 249 "ROSpecEvent"
    (field_to "Type" 8 2 ∷ any_field "ROSpecID" 32 ∷ any_field "PreemptingROSpecID" 32 ∷ []) Absent []
param_rule ReportBufferLevelWarningEvent = tlv 250 "ReportBufferLevelWarningEvent"
    (any_field "Percent" 8 ∷ []) Absent []
param_rule ReportBufferOverflowErrorEvent = tlv 251 "ReportBufferOverflowErrorEvent" [] Absent []
param_rule AiSpecEvent = tlv 254 "AISpecEvent"
    (any_field "Type" 8 ∷ any_field "ROSpecID" 32 ∷ any_field "SpecIndex" 16 ∷ []) Absent []
param_rule AntennaEvent = tlv 255 "AntennaEvent" (any_field "Type" 8 ∷ any_field "AntennaID" 16 ∷ []) Absent
    []
param_rule ConnectionAttemptEvent = tlv 256 "ConnectionAttemptEvent" (field_to "Status" 16 4 ∷ [])
    Absent []
param_rule ConnectionCloseEvent = tlv 257 "ConnectionCloseEvent" [] Absent []
param_rule LlrpStatus = tlv 287 "LLRPStatus" (any_field "StatusCode" 16 ∷ []) Text
    (at_most_one FieldError ∷ at_most_one ParameterError ∷ [])
param_rule FieldError = tlv 288 "FieldError" (any_field "FieldNumber" 16 ∷ any_field "ErrorCode" 16 ∷ [])
    Absent []
param_rule ParameterError = tlv 289 "ParameterError"
    (any_field "ParameterType" 16 ∷ any_field "ErrorCode" 16 ∷ []) Absent
    (at_most_one FieldError ∷ at_most_one ParameterError ∷ [])
param_rule C1G2InventoryCommand = tlv 330 "C1G2InventoryCommand"
    (any_field "StateAware" 1 ∷ reserved 7 ∷ []) Absent
    (at_most_one C1G2RfControl ∷ at_most_one C1G2SingulationControl ∷ [])
param_rule C1G2RfControl = tlv 335 "C1G2RFControl" (any_field "ModeIndex" 16 ∷ any_field "Tari" 16 ∷ [])
    Absent []
param_rule C1G2SingulationControl = tlv 336 "C1G2SingulationControl"
    (any_field "Session" 2 ∷ reserved 6 ∷ any_field "Population" 16 ∷ any_field "TransitTime" 32 ∷ []) Absent []
param_rule C1G2EpcMemorySelector = tlv 348 "C1G2EPCMemorySelector" (any_field "Selector" 8 ∷ []) Absent
    []
param_rule WholeAntennaId = of_whole (tv 1 "AntennaID" 16)
param_rule WholeFirstSeenTimestampUtc = of_whole (tv 2 "FirstSeenTimestampUTC" 64)
param_rule WholeFirstSeenTimestampUptime = of_whole (tv 3 "FirstSeenTimestampUptime" 64)
param_rule WholeLastSeenTimestampUtc = of_whole (tv 4 "LastSeenTimestampUTC" 64)
param_rule WholeLastSeenTimestampUptime = of_whole (tv 5 "LastSeenTimestampUptime" 64)
param_rule WholePeakRssi = of_whole (signed_tv 6 "PeakRSSI" 8)
param_rule WholeChannelIndex = of_whole (tv 7 "ChannelIndex" 16)
param_rule WholeTagSeenCount = of_whole (tv 8 "TagSeenCount" 16)
param_rule WholeRoSpecId = of_whole (tv 9 "ROSpecID" 32)
param_rule WholeInventoryParameterSpecId = of_whole (tv 10 "InventoryParameterSpecID" 16)
param_rule WholeC1G2Crc = of_whole (tv 11 "C1G2-CRC" 16)
param_rule WholeC1G2Pc = of_whole (tv 12 "C1G2-PC" 16)
param_rule WholeEpc96 = of_whole (tv 13 "EPC-96" 96)
param_rule WholeSpecIndex = of_whole (tv 14 "SpecIndex" 16)
param_rule WholeClientRequestOpSpecResult = of_whole (tv 15 "ClientRequestOpSpecResult" 16)
param_rule WholeAccessSpecId = of_whole (tv 16 "AccessSpecID" 32)
param_rule WholeOpSpecID = of_whole (tv 17 "OpSpecID" 16)
param_rule WholeC1G2SingulationDetails = of_whole (tv 18 "C1G2SingulationDetails" 32)
param_rule WholeC1g2xpcw1 = of_whole (tv 19 "C1G2XPCW1" 16)
param_rule WholeC1g2xpcw2 = of_whole (tv 20 "C1G2XPCW2" 16)
param_rule WholeUtcTimestamp = of_whole (tlv 128 "UTCTimestamp"
    (any_field "Microseconds" 64 ∷ []) Absent
    [])
param_rule WholeUptime = of_whole (tlv 129 "Uptime"
    (any_field "Microseconds" 64 ∷ []) Absent
    [])
param_rule WholeGeneralDeviceCapabilities = of_whole (tlv 137 "GeneralDeviceCapabilities"
    (any_field "MaxNumberOfAntennaSupported" 16 ∷ any_field "CanSetAntennaProperties" 1 ∷ any_field "HasUTCClockCapability" 1 ∷ reserved 14 ∷ any_field "DeviceManufacturerName" 32 ∷ any_field "ModelName" 32 ∷ []) Text
    (one_or_more WholeReceiveSensitivityTableEntry ∷ any_number WholePerAntennaReceiveSensitivityRange ∷ one WholeGpioCapabilities ∷ one_or_more WholePerAntennaAirProtocol ∷ at_most_one WholeMaximumReceiveSensitivity ∷ []))
param_rule WholeReceiveSensitivityTableEntry = of_whole (tlv 139 "ReceiveSensitivityTableEntry"
    (any_field "Index" 16 ∷ any_field "ReceiveSensitivityValue" 16 ∷ []) Absent
    [])
param_rule WholePerAntennaAirProtocol = of_whole (tlv 140 "PerAntennaAirProtocol"
    (any_field "AntennaID" 16 ∷ any_field "Count" 16 ∷ []) Data
    [])
param_rule WholeGpioCapabilities = of_whole (tlv 141 "GPIOCapabilities"
    (any_field "NumGPIs" 16 ∷ any_field "NumGPOs" 16 ∷ []) Absent
    [])
param_rule WholeLlrpCapabilities = of_whole (tlv 142 "LLRPCapabilities"
    (any_field "CanDoRFSurvey" 1 ∷ any_field "CanReportBufferFillWarning" 1 ∷ any_field "SupportsClientRequestOpSpec" 1 ∷ any_field "CanDoTagInventoryStateAwareSingulation" 1 ∷ any_field "SupportsEventAndReportHolding" 1 ∷ reserved 3 ∷ any_field "MaxNumPriorityLevelsSupported" 8 ∷ any_field "ClientRequestOpSpecTimeout" 16 ∷ any_field "MaxNumROSpecs" 32 ∷ any_field "MaxNumSpecsPerROSpec" 32 ∷ []) Data
    [])
param_rule WholeRegulatoryCapabilities = of_whole (tlv 143 "RegulatoryCapabilities"
    (any_field "CountryCode" 16 ∷ any_field "CommunicationsStandard" 16 ∷ []) Absent
    (at_most_one WholeUhfBandCapabilities ∷ any_number WholeCustom ∷ []))
param_rule WholeUhfBandCapabilities = of_whole (tlv 144 "UHFBandCapabilities"
    [] Absent
    (one_or_more WholeTransmitPowerLevelTableEntry ∷ one WholeFrequencyInformation ∷ one_or_more WholeC1G2UhfRfModeTable ∷ at_most_one WholeRfSurveyFrequencyCapabilities ∷ []))
param_rule WholeTransmitPowerLevelTableEntry = of_whole (tlv 145 "TransmitPowerLevelTableEntry"
    (any_field "Index" 16 ∷ any_field "TransmitPowerValue" 16 ∷ []) Absent
    [])
param_rule WholeFrequencyInformation = of_whole (tlv 146 "FrequencyInformation"
    (any_field "Hopping" 1 ∷ reserved 7 ∷ []) Absent
    (any_number WholeFrequencyHopTable ∷ at_most_one WholeFixedFrequencyTable ∷ []))
param_rule WholeFrequencyHopTable = of_whole (tlv 147 "FrequencyHopTable"
    (any_field "HopTableID" 8 ∷ reserved 8 ∷ any_field "Count" 16 ∷ []) Data
    [])
param_rule WholeFixedFrequencyTable = of_whole (tlv 148 "FixedFrequencyTable"
    (any_field "Count" 16 ∷ []) Data
    [])
param_rule WholePerAntennaReceiveSensitivityRange = of_whole (tlv 149 "PerAntennaReceiveSensitivityRange"
    (any_field "AntennaID" 16 ∷ any_field "ReceiveSensitivityIndexMin" 16 ∷ any_field "ReceiveSensitivityIndexMax" 16 ∷ []) Absent
    [])
param_rule WholeRoSpec = of_whole (tlv 177 "ROSpec"
    (any_field "ROSpecID" 32 ∷ field_to "Priority" 8 7 ∷ field_to "CurrentState" 8 2 ∷ []) Absent
    (one WholeRoBoundarySpec ∷ some_of (WholeAiSpec ∷ WholeRfSurveySpec ∷ WholeLoopSpec ∷ WholeCustom ∷ []) ∷ at_most_one WholeRoReportSpec ∷ []))
param_rule WholeRoBoundarySpec = of_whole (tlv 178 "ROBoundarySpec"
    [] Absent
    (one WholeRoSpecStartTrigger ∷ one WholeRoSpecStopTrigger ∷ []))
param_rule WholeRoSpecStartTrigger = of_whole (tlv 179 "ROSpecStartTrigger"
    (field_to "ROSpecStartTriggerType" 8 3 ∷ []) Absent
    (at_most_one WholePeriodicTriggerValue ∷ at_most_one WholeGpiTriggerValue ∷ []))
param_rule WholePeriodicTriggerValue = of_whole (tlv 180 "PeriodicTriggerValue"
    (any_field "Offset" 32 ∷ any_field "Period" 32 ∷ []) Absent
    (at_most_one WholeUtcTimestamp ∷ []))
param_rule WholeGpiTriggerValue = of_whole (tlv 181 "GPITriggerValue"
    (any_field "GPIPortNum" 16 ∷ any_field "GPIEvent" 1 ∷ reserved 7 ∷ any_field "Timeout" 32 ∷ []) Absent
    [])
param_rule WholeRoSpecStopTrigger = of_whole (tlv 182 "ROSpecStopTrigger"
    (field_to "ROSpecStopTriggerType" 8 2 ∷ any_field "DurationTriggerValue" 32 ∷ []) Absent
    (at_most_one WholeGpiTriggerValue ∷ []))
param_rule WholeAiSpec = of_whole (tlv 183 "AISpec"
    [] Words
    (one WholeAiSpecStopTrigger ∷ one_or_more WholeInventoryParameterSpec ∷ any_number WholeCustom ∷ []))
param_rule WholeAiSpecStopTrigger = of_whole (tlv 184 "AISpecStopTrigger"
    (field_to "AISpecStopTriggerType" 8 3 ∷ any_field "DurationTrigger" 32 ∷ []) Absent
    (at_most_one WholeGpiTriggerValue ∷ at_most_one WholeTagObservationTrigger ∷ []))
param_rule WholeTagObservationTrigger = of_whole (tlv 185 "TagObservationTrigger"
    (any_field "TriggerType" 8 ∷ reserved 8 ∷ any_field "NumberOfTags" 16 ∷ any_field "NumberOfAttempts" 16 ∷ any_field "T" 16 ∷ any_field "Timeout" 32 ∷ []) Absent
    [])
param_rule WholeInventoryParameterSpec = of_whole (tlv 186 "InventoryParameterSpec"
    (any_field "InventoryParameterSpecID" 16 ∷ any_field "ProtocolID" 8 ∷ []) Absent
    (any_number WholeAntennaConfiguration ∷ any_number WholeCustom ∷ []))
param_rule WholeRfSurveySpec = of_whole (tlv 187 "RFSurveySpec"
    (any_field "AntennaID" 16 ∷ any_field "StartFrequency" 32 ∷ any_field "EndFrequency" 32 ∷ []) Absent
    (one WholeRfSurveySpecStopTrigger ∷ any_number WholeCustom ∷ []))
param_rule WholeRfSurveySpecStopTrigger = of_whole (tlv 188 "RFSurveySpecStopTrigger"
    (field_to "StopTriggerType" 8 2 ∷ any_field "DurationPeriod" 32 ∷ any_field "N" 32 ∷ []) Absent
    [])
param_rule WholeAccessSpec = of_whole (tlv 207 "AccessSpec"
    (any_field "AccessSpecID" 32 ∷ any_field "AntennaID" 16 ∷ any_field "ProtocolID" 8 ∷ any_field "CurrentState" 1 ∷ reserved 7 ∷ any_field "ROSpecID" 32 ∷ []) Absent
    (one WholeAccessSpecStopTrigger ∷ one WholeAccessCommand ∷ at_most_one WholeAccessReportSpec ∷ any_number WholeCustom ∷ []))
param_rule WholeAccessSpecStopTrigger = of_whole (tlv 208 "AccessSpecStopTrigger"
    (field_to "AccessSpecStopTrigger" 8 1 ∷ any_field "OperationCountValue" 16 ∷ []) Absent
    [])
param_rule WholeAccessCommand = of_whole (tlv 209 "AccessCommand"
    [] Absent
    (one WholeC1G2TagSpec ∷ some_of (WholeC1G2Read ∷ WholeC1G2Write ∷ WholeC1G2Kill ∷ WholeC1G2Lock ∷ WholeC1G2BlockErase ∷ WholeC1G2BlockWrite ∷ WholeC1G2Recommission ∷ WholeC1G2BlockPermalock ∷ WholeC1G2GetBlockPermalockStatus ∷ WholeClientRequestOpSpec ∷ WholeCustom ∷ []) ∷ []))
param_rule WholeClientRequestOpSpec = of_whole (tlv 210 "ClientRequestOpSpec"
    (any_field "OpSpecID" 16 ∷ []) Absent
    [])
param_rule WholeClientRequestResponse = of_whole (tlv 211 "ClientRequestResponse"
    (any_field "AccessSpecID" 32 ∷ []) Absent
    (one WholeEpcData ∷ any_of (WholeC1G2Read ∷ WholeC1G2Write ∷ WholeC1G2Kill ∷ WholeC1G2Lock ∷ WholeC1G2BlockErase ∷ WholeC1G2BlockWrite ∷ WholeC1G2Recommission ∷ WholeC1G2BlockPermalock ∷ WholeC1G2GetBlockPermalockStatus ∷ []) ∷ []))
param_rule WholeLlrpConfigurationStateValue = of_whole (tlv 217 "LLRPConfigurationStateValue"
    (any_field "LLRPConfigurationStateValue" 32 ∷ []) Absent
    [])
param_rule WholeIdentification = of_whole (tlv 218 "Identification"
    (field_to "IDType" 8 1 ∷ any_field "Count" 16 ∷ []) Data
    [])
param_rule WholeGpoWriteData = of_whole (tlv 219 "GPOWriteData"
    (any_field "GPOPortNumber" 16 ∷ any_field "GPOData" 1 ∷ reserved 7 ∷ []) Absent
    [])
param_rule WholeKeepaliveSpec = of_whole (tlv 220 "KeepaliveSpec"
    (field_to "KeepaliveTriggerType" 8 1 ∷ any_field "PeriodicTriggerValue" 32 ∷ []) Absent
    [])
param_rule WholeAntennaProperties = of_whole (tlv 221 "AntennaProperties"
    (any_field "AntennaConnected" 1 ∷ reserved 7 ∷ any_field "AntennaID" 16 ∷ any_field "AntennaGain" 16 ∷ []) Absent
    [])
param_rule WholeAntennaConfiguration = of_whole (tlv 222 "AntennaConfiguration"
    (any_field "AntennaID" 16 ∷ []) Absent
    (at_most_one WholeRfReceiver ∷ at_most_one WholeRfTransmitter ∷ any_number WholeC1G2InventoryCommand ∷ any_number WholeCustom ∷ []))
param_rule WholeRfReceiver = of_whole (tlv 223 "RFReceiver"
    (any_field "ReceiverSensitivity" 16 ∷ []) Absent
    [])
param_rule WholeRfTransmitter = of_whole (tlv 224 "RFTransmitter"
    (any_field "HopTableID" 16 ∷ any_field "ChannelIndex" 16 ∷ any_field "TransmitPower" 16 ∷ []) Absent
    [])
param_rule WholeGpiPortCurrentState = of_whole (tlv 225 "GPIPortCurrentState"
    (any_field "GPIPortNum" 16 ∷ any_field "GPIConfig" 1 ∷ reserved 7 ∷ field_to "State" 8 2 ∷ []) Absent
    [])
param_rule WholeEventsAndReports = of_whole (tlv 226 "EventsAndReports"
    (any_field "HoldEventsAndReportsUponReconnect" 1 ∷ reserved 7 ∷ []) Absent
    [])
param_rule WholeRoReportSpec = of_whole (tlv 237 "ROReportSpec"
    (any_field "ROReportTrigger" 8 ∷ any_field "N" 16 ∷ []) Absent
    (one WholeTagReportContentSelector ∷ any_number WholeCustom ∷ []))
param_rule WholeTagReportContentSelector = of_whole (tlv 238 "TagReportContentSelector"
    (any_field "EnableROSpecID" 1 ∷ any_field "EnableSpecIndex" 1 ∷ any_field "EnableInventoryParameterSpecID" 1 ∷ any_field "EnableAntennaID" 1 ∷ any_field "EnableChannelIndex" 1 ∷ any_field "EnablePeakRSSI" 1 ∷ any_field "EnableFirstSeenTimestamp" 1 ∷ any_field "EnableLastSeenTimestamp" 1 ∷ any_field "EnableTagSeenCount" 1 ∷ any_field "EnableAccessSpecID" 1 ∷ reserved 6 ∷ []) Absent
    (any_number WholeC1G2EpcMemorySelector ∷ []))
param_rule WholeAccessReportSpec = of_whole (tlv 239 "AccessReportSpec"
    (field_to "AccessReportTrigger" 8 1 ∷ []) Absent
    [])
param_rule WholeTagReportData = of_whole (tlv 240 "TagReportData"
    [] Absent
    (one_of (WholeEpcData ∷ WholeEpc96 ∷ []) ∷ at_most_one WholeAntennaId ∷ at_most_one WholeFirstSeenTimestampUtc ∷ at_most_one WholeFirstSeenTimestampUptime ∷ at_most_one WholeLastSeenTimestampUtc ∷ at_most_one WholeLastSeenTimestampUptime ∷ at_most_one WholePeakRssi ∷ at_most_one WholeChannelIndex ∷ at_most_one WholeTagSeenCount ∷ at_most_one WholeRoSpecId ∷ at_most_one WholeInventoryParameterSpecId ∷ at_most_one WholeSpecIndex ∷ at_most_one WholeAccessSpecId ∷ any_number WholeC1G2Crc ∷ any_number WholeC1G2Pc ∷ any_of (WholeC1g2xpcw1 ∷ WholeC1g2xpcw2 ∷ []) ∷ any_of (WholeC1G2ReadOpSpecResult ∷ WholeC1G2WriteOpSpecResult ∷ WholeC1G2KillOpSpecResult ∷ WholeC1G2LockOpSpecResult ∷ WholeC1G2BlockEraseOpSpecResult ∷ WholeC1G2BlockWriteOpSpecResult ∷ WholeC1G2RecommissionOpSpecResult ∷ WholeC1G2BlockPermalockOpSpecResult ∷ WholeC1G2GetBlockPermalockStatusOpSpecResult ∷ WholeClientRequestOpSpecResult ∷ []) ∷ any_number WholeCustom ∷ []))
param_rule WholeEpcData = of_whole (tlv 241 "EPCData"
    (any_field "BitCount" 16 ∷ []) Bits
    [])
param_rule WholeRfSurveyReportData = of_whole (tlv 242 "RFSurveyReportData"
    [] Absent
    (at_most_one WholeRoSpecId ∷ at_most_one WholeSpecIndex ∷ one_or_more WholeFrequencyRssiLevelEntry ∷ any_number WholeCustom ∷ []))
param_rule WholeFrequencyRssiLevelEntry = of_whole (tlv 243 "FrequencyRSSILevelEntry"
    (any_field "Frequency" 32 ∷ any_field "Bandwidth" 32 ∷ signed "AverageRSSI" 8 ∷ signed "PeakRSSI" 8 ∷ []) Absent
    (one_of (WholeUtcTimestamp ∷ WholeUptime ∷ []) ∷ []))
param_rule WholeReaderEventNotificationSpec = of_whole (tlv 244 "ReaderEventNotificationSpec"
    [] Absent
    (one_or_more WholeEventNotificationState ∷ []))
param_rule WholeEventNotificationState = of_whole (tlv 245 "EventNotificationState"
    (any_field "EventType" 16 ∷ any_field "NotificationState" 1 ∷ reserved 7 ∷ []) Absent
    [])
param_rule WholeReaderEventNotificationData = of_whole (tlv 246 "ReaderEventNotificationData"
    [] Absent
    (one_of (WholeUtcTimestamp ∷ WholeUptime ∷ []) ∷ at_most_one WholeGpiEvent ∷ at_most_one WholeRoSpecEvent ∷ at_most_one WholeReportBufferLevelWarningEvent ∷ at_most_one WholeReportBufferOverflowErrorEvent ∷ at_most_one WholeAiSpecEvent ∷ at_most_one WholeAntennaEvent ∷ at_most_one WholeConnectionAttemptEvent ∷ at_most_one WholeConnectionCloseEvent ∷ at_most_one WholeHoppingEvent ∷ at_most_one WholeReaderExceptionEvent ∷ at_most_one WholeRfSurveyEvent ∷ at_most_one WholeSpecLoopEvent ∷ any_number WholeCustom ∷ []))
param_rule WholeHoppingEvent = of_whole (tlv 247 "HoppingEvent"
    (any_field "HopTableID" 16 ∷ any_field "NextChannelIndex" 16 ∷ []) Absent
    [])
param_rule WholeGpiEvent = of_whole (tlv 248 "GPIEvent"
    (any_field "GPIPortNumber" 16 ∷ any_field "GPIEvent" 1 ∷ reserved 7 ∷ []) Absent
    [])
param_rule WholeRoSpecEvent = of_whole (tlv 249 "ROSpecEvent"
    (field_to "EventType" 8 2 ∷ any_field "ROSpecID" 32 ∷ any_field "PreemptingROSpecID" 32 ∷ []) Absent
    [])
param_rule WholeReportBufferLevelWarningEvent = of_whole (tlv 250 "ReportBufferLevelWarningEvent"
    (any_field "ReportBufferPercentageFull" 8 ∷ []) Absent
    [])
param_rule WholeReportBufferOverflowErrorEvent = of_whole (tlv 251 "ReportBufferOverflowErrorEvent"
    [] Absent
    [])
param_rule WholeReaderExceptionEvent = of_whole (tlv 252 "ReaderExceptionEvent"
    [] Text
    (at_most_one WholeRoSpecId ∷ at_most_one WholeSpecIndex ∷ at_most_one WholeInventoryParameterSpecId ∷ at_most_one WholeAntennaId ∷ at_most_one WholeAccessSpecId ∷ at_most_one WholeOpSpecID ∷ any_number WholeCustom ∷ []))
param_rule WholeRfSurveyEvent = of_whole (tlv 253 "RFSurveyEvent"
    (field_to "EventType" 8 1 ∷ any_field "ROSpecID" 32 ∷ any_field "SpecIndex" 16 ∷ []) Absent
    [])
param_rule WholeAiSpecEvent = of_whole (tlv 254 "AISpecEvent"
    (any_field "EventType" 8 ∷ any_field "ROSpecID" 32 ∷ any_field "SpecIndex" 16 ∷ []) Absent
    (at_most_one WholeC1G2SingulationDetails ∷ []))
param_rule WholeAntennaEvent = of_whole (tlv 255 "AntennaEvent"
    (any_field "EventType" 8 ∷ any_field "AntennaID" 16 ∷ []) Absent
    [])
param_rule WholeConnectionAttemptEvent = of_whole (tlv 256 "ConnectionAttemptEvent"
    (field_to "Status" 16 4 ∷ []) Absent
    [])
param_rule WholeConnectionCloseEvent = of_whole (tlv 257 "ConnectionCloseEvent"
    [] Absent
    [])
param_rule WholeLlrpStatus = of_whole (tlv 287 "LLRPStatus"
    (any_field "StatusCode" 16 ∷ []) Text
    (at_most_one WholeFieldError ∷ at_most_one WholeParameterError ∷ []))
param_rule WholeFieldError = of_whole (tlv 288 "FieldError"
    (any_field "FieldNum" 16 ∷ any_field "ErrorCode" 16 ∷ []) Absent
    [])
param_rule WholeParameterError = of_whole (tlv 289 "ParameterError"
    (any_field "ParameterType" 16 ∷ any_field "ErrorCode" 16 ∷ []) Absent
    (at_most_one WholeFieldError ∷ at_most_one WholeParameterError ∷ []))
param_rule WholeC1G2LlrpCapabilities = of_whole (tlv 327 "C1G2LLRPCapabilities"
    (any_field "CanSupportBlockErase" 1 ∷ any_field "CanSupportBlockWrite" 1 ∷ any_field "CanSupportBlockPermalock" 1 ∷ any_field "CanSupportTagRecommissioning" 1 ∷ any_field "CanSupportUMIMethod2" 1 ∷ any_field "CanSupportXPC" 1 ∷ reserved 2 ∷ any_field "MaxNumSelectFiltersPerQuery" 16 ∷ []) Absent
    [])
param_rule WholeC1G2UhfRfModeTable = of_whole (tlv 328 "C1G2UHFRFModeTable"
    [] Absent
    (one_or_more WholeC1G2UhfRfModeTableEntry ∷ []))
param_rule WholeC1G2UhfRfModeTableEntry = of_whole (tlv 329 "C1G2UHFRFModeTableEntry"
    (any_field "ModeIdentifier" 32 ∷ any_field "DRValue" 1 ∷ any_field "EPCHAGTCConformance" 1 ∷ reserved 6 ∷ field_to "MValue" 8 3 ∷ field_to "ForwardLinkModulation" 8 2 ∷ field_to "SpectralMaskIndicator" 8 3 ∷ any_field "BDRValue" 32 ∷ []) Data
    [])
param_rule WholeC1G2InventoryCommand = of_whole (tlv 330 "C1G2InventoryCommand"
    (any_field "TagInventoryStateAware" 1 ∷ reserved 7 ∷ []) Absent
    (at_most_one WholeC1G2RfControl ∷ at_most_one WholeC1G2SingulationControl ∷ any_number WholeC1G2Filter ∷ any_number WholeCustom ∷ []))
param_rule WholeC1G2Filter = of_whole (tlv 331 "C1G2Filter"
    (field_to "T" 2 2 ∷ reserved 6 ∷ []) Absent
    (one WholeC1G2TagInventoryMask ∷ at_most_one WholeC1G2TagInventoryStateAwareFilterAction ∷ at_most_one WholeC1G2TagInventoryStateUnawareFilterAction ∷ []))
param_rule WholeC1G2TagInventoryMask = of_whole (tlv 332 "C1G2TagInventoryMask"
    (any_field "MB" 2 ∷ reserved 6 ∷ any_field "Pointer" 16 ∷ any_field "Count" 16 ∷ []) Data
    [])
param_rule WholeC1G2TagInventoryStateAwareFilterAction = of_whole (tlv 333 "C1G2TagInventoryStateAwareFilterAction"
    (field_to "Target" 8 4 ∷ field_to "Action" 8 7 ∷ []) Absent
    [])
param_rule WholeC1G2TagInventoryStateUnawareFilterAction = of_whole (tlv 334 "C1G2TagInventoryStateUnawareFilterAction"
    (field_to "Action" 8 5 ∷ []) Absent
    [])
param_rule WholeC1G2RfControl = of_whole (tlv 335 "C1G2RFControl"
    (any_field "ModeIndex" 16 ∷ any_field "Tari" 16 ∷ []) Absent
    [])
param_rule WholeC1G2SingulationControl = of_whole (tlv 336 "C1G2SingulationControl"
    (any_field "Session" 2 ∷ reserved 6 ∷ any_field "TagPopulation" 16 ∷ any_field "TagTransitTime" 32 ∷ []) Absent
    (at_most_one WholeC1G2TagInventoryStateAwareSingulationAction ∷ []))
param_rule WholeC1G2TagInventoryStateAwareSingulationAction = of_whole (tlv 337 "C1G2TagInventoryStateAwareSingulationAction"
    (any_field "I" 1 ∷ any_field "S" 1 ∷ any_field "S_All" 1 ∷ reserved 5 ∷ []) Absent
    [])
param_rule WholeC1G2TagSpec = of_whole (tlv 338 "C1G2TagSpec"
    [] Absent
    (one_or_more WholeC1G2TargetTag ∷ []))
param_rule WholeC1G2TargetTag = of_whole (tlv 339 "C1G2TargetTag"
    (any_field "MB" 2 ∷ any_field "Match" 1 ∷ reserved 5 ∷ any_field "Pointer" 16 ∷ any_field "Count" 16 ∷ []) Data
    [])
param_rule WholeC1G2Read = of_whole (tlv 341 "C1G2Read"
    (any_field "OpSpecID" 16 ∷ any_field "AccessPassword" 32 ∷ any_field "MB" 2 ∷ reserved 6 ∷ any_field "WordPointer" 16 ∷ any_field "WordCount" 16 ∷ []) Absent
    [])
param_rule WholeC1G2Write = of_whole (tlv 342 "C1G2Write"
    (any_field "OpSpecID" 16 ∷ any_field "AccessPassword" 32 ∷ any_field "MB" 2 ∷ reserved 6 ∷ any_field "WordPointer" 16 ∷ []) Words
    [])
param_rule WholeC1G2Kill = of_whole (tlv 343 "C1G2Kill"
    (any_field "OpSpecID" 16 ∷ any_field "KillPassword" 32 ∷ []) Absent
    [])
param_rule WholeC1G2Lock = of_whole (tlv 344 "C1G2Lock"
    (any_field "OpSpecID" 16 ∷ any_field "AccessPassword" 32 ∷ []) Absent
    (one_or_more WholeC1G2LockPayload ∷ []))
param_rule WholeC1G2LockPayload = of_whole (tlv 345 "C1G2LockPayload"
    (field_to "Privilege" 8 3 ∷ field_to "DataField" 8 4 ∷ []) Absent
    [])
param_rule WholeC1G2BlockErase = of_whole (tlv 346 "C1G2BlockErase"
    (any_field "OpSpecID" 16 ∷ any_field "AccessPassword" 32 ∷ any_field "MB" 2 ∷ reserved 6 ∷ any_field "WordPointer" 16 ∷ any_field "WordCount" 16 ∷ []) Absent
    [])
param_rule WholeC1G2BlockWrite = of_whole (tlv 347 "C1G2BlockWrite"
    (any_field "OpSpecID" 16 ∷ any_field "AccessPassword" 32 ∷ any_field "MB" 2 ∷ reserved 6 ∷ any_field "WordPointer" 16 ∷ []) Words
    [])
param_rule WholeC1G2EpcMemorySelector = of_whole (tlv 348 "C1G2EPCMemorySelector"
    (any_field "Selector" 8 ∷ []) Absent
    [])
param_rule WholeC1G2ReadOpSpecResult = of_whole (tlv 349 "C1G2ReadOpSpecResult"
    (any_field "Result" 8 ∷ any_field "OpSpecID" 16 ∷ []) Words
    [])
param_rule WholeC1G2WriteOpSpecResult = of_whole (tlv 350 "C1G2WriteOpSpecResult"
    (any_field "Result" 8 ∷ any_field "OpSpecID" 16 ∷ any_field "NumWordsWritten" 16 ∷ []) Absent
    [])
param_rule WholeC1G2KillOpSpecResult = of_whole (tlv 351 "C1G2KillOpSpecResult"
    (any_field "Result" 8 ∷ any_field "OpSpecID" 16 ∷ []) Absent
    [])
param_rule WholeC1G2LockOpSpecResult = of_whole (tlv 352 "C1G2LockOpSpecResult"
    (any_field "Result" 8 ∷ any_field "OpSpecID" 16 ∷ []) Absent
    [])
param_rule WholeC1G2BlockEraseOpSpecResult = of_whole (tlv 353 "C1G2BlockEraseOpSpecResult"
    (any_field "Result" 8 ∷ any_field "OpSpecID" 16 ∷ []) Absent
    [])
param_rule WholeC1G2BlockWriteOpSpecResult = of_whole (tlv 354 "C1G2BlockWriteOpSpecResult"
    (any_field "Result" 8 ∷ any_field "OpSpecID" 16 ∷ any_field "NumWordsWritten" 16 ∷ []) Absent
    [])
param_rule WholeLoopSpec = of_whole (tlv 355 "LoopSpec"
    (any_field "LoopCount" 32 ∷ []) Absent
    [])
param_rule WholeSpecLoopEvent = of_whole (tlv 356 "SpecLoopEvent"
    (any_field "ROSpecID" 32 ∷ any_field "LoopCount" 32 ∷ []) Absent
    [])
param_rule WholeC1G2Recommission = of_whole (tlv 357 "C1G2Recommission"
    (any_field "OpSpecID" 16 ∷ any_field "KillPassword" 32 ∷ reserved 5 ∷ any_field "SB3" 1 ∷ any_field "SB2" 1 ∷ any_field "LSB" 1 ∷ []) Absent
    [])
param_rule WholeC1G2BlockPermalock = of_whole (tlv 358 "C1G2BlockPermalock"
    (any_field "OpSpecID" 16 ∷ any_field "AccessPassword" 32 ∷ any_field "MB" 2 ∷ reserved 6 ∷ any_field "BlockPointer" 16 ∷ []) Words
    [])
param_rule WholeC1G2GetBlockPermalockStatus = of_whole (tlv 359 "C1G2GetBlockPermalockStatus"
    (any_field "OpSpecID" 16 ∷ any_field "AccessPassword" 32 ∷ any_field "MB" 2 ∷ reserved 6 ∷ any_field "BlockPointer" 16 ∷ any_field "BlockRange" 16 ∷ []) Absent
    [])
param_rule WholeC1G2RecommissionOpSpecResult = of_whole (tlv 360 "C1G2RecommissionOpSpecResult"
    (any_field "Result" 8 ∷ any_field "OpSpecID" 16 ∷ []) Absent
    [])
param_rule WholeC1G2BlockPermalockOpSpecResult = of_whole (tlv 361 "C1G2BlockPermalockOpSpecResult"
    (any_field "Result" 8 ∷ any_field "OpSpecID" 16 ∷ []) Absent
    [])
param_rule WholeC1G2GetBlockPermalockStatusOpSpecResult = of_whole (tlv 362 "C1G2GetBlockPermalockStatusOpSpecResult"
    (any_field "Result" 8 ∷ any_field "OpSpecID" 16 ∷ []) Words
    [])
param_rule WholeMaximumReceiveSensitivity = of_whole (tlv 363 "MaximumReceiveSensitivity"
    (any_field "MaximumSensitivityValue" 16 ∷ []) Absent
    [])
param_rule WholeRfSurveyFrequencyCapabilities = of_whole (tlv 365 "RFSurveyFrequencyCapabilities"
    (any_field "MinimumFrequency" 32 ∷ any_field "MaximumFrequency" 32 ∷ []) Absent
    [])
param_rule WholeCustom = of_whole (tlv 1023 "Custom"
    (any_field "VendorIdentifier" 32 ∷ any_field "ParameterSubtype" 32 ∷ []) Data
    [])

-- the row of a kind
unfoldable pub rule_of : Kind → KindRule
rule_of (Message kind) = message_rule kind
rule_of (Parameter kind) = param_rule kind

-- whether a kind is of the profile or of the whole standard
unfoldable pub set_of_kind : Kind → KindSet
set_of_kind kind = (rule_of kind).set

-- the number that a kind has in a header
unfoldable pub number_of : Kind → ℕ
number_of kind = (rule_of kind).number

-- the name of a kind, as ASCII
unfoldable pub name_of : Kind → List ℕ
name_of kind = (rule_of kind).name

-- the fields of a kind, reserved ones among them, in order
unfoldable pub fields_of : Kind → List FieldRule
fields_of kind = (rule_of kind).fields

-- what a kind has between its fields and its children
unfoldable pub tail_of : Kind → Tail
tail_of kind = (rule_of kind).tail

-- the groups of children of a kind, in the order in which a missing child is looked for
unfoldable pub groups_of : Kind → List GroupRule
groups_of kind = (rule_of kind).groups

-- the fields that are not reserved
abbrev pub plain_fields_of : Kind → List FieldRule
plain_fields_of kind = filter (λ rule. not rule.reserved) (fields_of kind)

-- the bits of some fields together
abbrev pub bits_of : List FieldRule → ℕ
bits_of fields = sum_by (λ rule. rule.width) fields

-- whether a parameter has a type and a value alone, with no length: the numbers below 128 are theirs
unfoldable pub is_tv : ParamKind → Bool
is_tv kind = nat_lt (number_of (Parameter kind)) 128

-- every kind of message of the profile
unfoldable pub message_kinds : List MsgKind
message_kinds =
    SetReaderConfig ∷ CloseConnectionResponse ∷ SetReaderConfigResponse ∷ CloseConnection ∷
    AddRoSpec ∷ DeleteRoSpec ∷ StartRoSpec ∷ StopRoSpec ∷ EnableRoSpec ∷ DisableRoSpec ∷ GetRoSpecs ∷
    AddRoSpecResponse ∷ DeleteRoSpecResponse ∷ StartRoSpecResponse ∷ StopRoSpecResponse ∷
    EnableRoSpecResponse ∷ DisableRoSpecResponse ∷ GetRoSpecsResponse ∷ GetReport ∷ RoAccessReport ∷ Keepalive ∷
    ReaderEventNotification ∷ EnableEventsAndReports ∷ KeepaliveAck ∷ ErrorMessage ∷ []

-- every kind of parameter of the profile
unfoldable pub param_kinds : List ParamKind
param_kinds =
    AntennaId ∷ FirstSeenTimestampUtc ∷ FirstSeenTimestampUptime ∷ LastSeenTimestampUtc ∷
    LastSeenTimestampUptime ∷ PeakRssi ∷ ChannelIndex ∷ TagSeenCount ∷ RoSpecId ∷
    InventoryParameterSpecId ∷ C1G2Crc ∷ C1G2Pc ∷ Epc96 ∷ SpecIndex ∷ AccessSpecId ∷ UtcTimestamp ∷
    Uptime ∷ RoSpec ∷ RoBoundarySpec ∷ RoSpecStartTrigger ∷ PeriodicTriggerValue ∷ GpiTriggerValue ∷
    RoSpecStopTrigger ∷ AiSpec ∷ AiSpecStopTrigger ∷ TagObservationTrigger ∷
    InventoryParameterSpec ∷ KeepaliveSpec ∷ AntennaConfiguration ∷ RfReceiver ∷ RfTransmitter ∷
    EventsAndReports ∷ RoReportSpec ∷ TagReportContentSelector ∷ TagReportData ∷ EpcData ∷
    ReaderEventNotificationSpec ∷ EventNotificationState ∷ ReaderEventNotificationData ∷ GpiEvent ∷
    RoSpecEvent ∷ ReportBufferLevelWarningEvent ∷ ReportBufferOverflowErrorEvent ∷ AiSpecEvent ∷
    AntennaEvent ∷ ConnectionAttemptEvent ∷ ConnectionCloseEvent ∷ LlrpStatus ∷ FieldError ∷
    ParameterError ∷ C1G2InventoryCommand ∷ C1G2RfControl ∷ C1G2SingulationControl ∷
    C1G2EpcMemorySelector ∷ []

-- every kind of message of the whole standard
unfoldable pub whole_message_kinds : List MsgKind
whole_message_kinds =
    WholeGetReaderCapabilities ∷ WholeGetReaderConfig ∷ WholeSetReaderConfig ∷ WholeCloseConnectionResponse ∷ WholeGetReaderCapabilitiesResponse ∷ WholeGetReaderConfigResponse ∷ WholeSetReaderConfigResponse ∷ WholeCloseConnection ∷ WholeAddRoSpec ∷ WholeDeleteRoSpec ∷ WholeStartRoSpec ∷ WholeStopRoSpec ∷ WholeEnableRoSpec ∷ WholeDisableRoSpec ∷ WholeGetRoSpecs ∷ WholeAddRoSpecResponse ∷ WholeDeleteRoSpecResponse ∷ WholeStartRoSpecResponse ∷ WholeStopRoSpecResponse ∷ WholeEnableRoSpecResponse ∷ WholeDisableRoSpecResponse ∷ WholeGetRoSpecsResponse ∷ WholeAddAccessSpec ∷ WholeDeleteAccessSpec ∷ WholeEnableAccessSpec ∷ WholeDisableAccessSpec ∷ WholeGetAccessSpecs ∷ WholeClientRequestOp ∷ WholeGetSupportedVersion ∷ WholeSetProtocolVersion ∷ WholeAddAccessSpecResponse ∷ WholeDeleteAccessSpecResponse ∷ WholeEnableAccessSpecResponse ∷ WholeDisableAccessSpecResponse ∷ WholeGetAccessSpecsResponse ∷ WholeClientRequestOpResponse ∷ WholeGetSupportedVersionResponse ∷ WholeSetProtocolVersionResponse ∷ WholeGetReport ∷ WholeRoAccessReport ∷ WholeKeepalive ∷ WholeReaderEventNotification ∷ WholeEnableEventsAndReports ∷ WholeKeepaliveAck ∷ WholeErrorMessage ∷ WholeCustomMessage ∷ []

-- every kind of parameter of the whole standard
unfoldable pub whole_param_kinds : List ParamKind
whole_param_kinds =
    WholeAntennaId ∷ WholeFirstSeenTimestampUtc ∷ WholeFirstSeenTimestampUptime ∷ WholeLastSeenTimestampUtc ∷ WholeLastSeenTimestampUptime ∷ WholePeakRssi ∷ WholeChannelIndex ∷ WholeTagSeenCount ∷ WholeRoSpecId ∷ WholeInventoryParameterSpecId ∷ WholeC1G2Crc ∷ WholeC1G2Pc ∷ WholeEpc96 ∷ WholeSpecIndex ∷ WholeClientRequestOpSpecResult ∷ WholeAccessSpecId ∷ WholeOpSpecID ∷ WholeC1G2SingulationDetails ∷ WholeC1g2xpcw1 ∷ WholeC1g2xpcw2 ∷ WholeUtcTimestamp ∷ WholeUptime ∷ WholeGeneralDeviceCapabilities ∷ WholeReceiveSensitivityTableEntry ∷ WholePerAntennaAirProtocol ∷ WholeGpioCapabilities ∷ WholeLlrpCapabilities ∷ WholeRegulatoryCapabilities ∷ WholeUhfBandCapabilities ∷ WholeTransmitPowerLevelTableEntry ∷ WholeFrequencyInformation ∷ WholeFrequencyHopTable ∷ WholeFixedFrequencyTable ∷ WholePerAntennaReceiveSensitivityRange ∷ WholeRoSpec ∷ WholeRoBoundarySpec ∷ WholeRoSpecStartTrigger ∷ WholePeriodicTriggerValue ∷ WholeGpiTriggerValue ∷ WholeRoSpecStopTrigger ∷ WholeAiSpec ∷ WholeAiSpecStopTrigger ∷ WholeTagObservationTrigger ∷ WholeInventoryParameterSpec ∷ WholeRfSurveySpec ∷ WholeRfSurveySpecStopTrigger ∷ WholeAccessSpec ∷ WholeAccessSpecStopTrigger ∷ WholeAccessCommand ∷ WholeClientRequestOpSpec ∷ WholeClientRequestResponse ∷ WholeLlrpConfigurationStateValue ∷ WholeIdentification ∷ WholeGpoWriteData ∷ WholeKeepaliveSpec ∷ WholeAntennaProperties ∷ WholeAntennaConfiguration ∷ WholeRfReceiver ∷ WholeRfTransmitter ∷ WholeGpiPortCurrentState ∷ WholeEventsAndReports ∷ WholeRoReportSpec ∷ WholeTagReportContentSelector ∷ WholeAccessReportSpec ∷ WholeTagReportData ∷ WholeEpcData ∷ WholeRfSurveyReportData ∷ WholeFrequencyRssiLevelEntry ∷ WholeReaderEventNotificationSpec ∷ WholeEventNotificationState ∷ WholeReaderEventNotificationData ∷ WholeHoppingEvent ∷ WholeGpiEvent ∷ WholeRoSpecEvent ∷ WholeReportBufferLevelWarningEvent ∷ WholeReportBufferOverflowErrorEvent ∷ WholeReaderExceptionEvent ∷ WholeRfSurveyEvent ∷ WholeAiSpecEvent ∷ WholeAntennaEvent ∷ WholeConnectionAttemptEvent ∷ WholeConnectionCloseEvent ∷ WholeLlrpStatus ∷ WholeFieldError ∷ WholeParameterError ∷ WholeC1G2LlrpCapabilities ∷ WholeC1G2UhfRfModeTable ∷ WholeC1G2UhfRfModeTableEntry ∷ WholeC1G2InventoryCommand ∷ WholeC1G2Filter ∷ WholeC1G2TagInventoryMask ∷ WholeC1G2TagInventoryStateAwareFilterAction ∷ WholeC1G2TagInventoryStateUnawareFilterAction ∷ WholeC1G2RfControl ∷ WholeC1G2SingulationControl ∷ WholeC1G2TagInventoryStateAwareSingulationAction ∷ WholeC1G2TagSpec ∷ WholeC1G2TargetTag ∷ WholeC1G2Read ∷ WholeC1G2Write ∷ WholeC1G2Kill ∷ WholeC1G2Lock ∷ WholeC1G2LockPayload ∷ WholeC1G2BlockErase ∷ WholeC1G2BlockWrite ∷ WholeC1G2EpcMemorySelector ∷ WholeC1G2ReadOpSpecResult ∷ WholeC1G2WriteOpSpecResult ∷ WholeC1G2KillOpSpecResult ∷ WholeC1G2LockOpSpecResult ∷ WholeC1G2BlockEraseOpSpecResult ∷ WholeC1G2BlockWriteOpSpecResult ∷ WholeLoopSpec ∷ WholeSpecLoopEvent ∷ WholeC1G2Recommission ∷ WholeC1G2BlockPermalock ∷ WholeC1G2GetBlockPermalockStatus ∷ WholeC1G2RecommissionOpSpecResult ∷ WholeC1G2BlockPermalockOpSpecResult ∷ WholeC1G2GetBlockPermalockStatusOpSpecResult ∷ WholeMaximumReceiveSensitivity ∷ WholeRfSurveyFrequencyCapabilities ∷ WholeCustom ∷ []

-- the messages and the parameters of each
abbrev pub messages_of : KindSet → List MsgKind
messages_of Profile = message_kinds
messages_of Standard = whole_message_kinds

abbrev pub params_of : KindSet → List ParamKind
params_of Profile = param_kinds
params_of Standard = whole_param_kinds

-- the numbers of the profile stay as they are, those of the whole standard are above them
abbrev pub key_in : KindSet → ℕ → ℕ
key_in Profile number = number
key_in Standard number = 1024 + number

-- a number that no two kinds of parameter share
unfoldable pub key_of : ParamKind → ℕ
key_of kind = key_in (set_of_kind (Parameter kind)) (number_of (Parameter kind))

-- the kind is one of the group's
abbrev pub is_member : GroupRule → ParamKind → Bool
is_member group kind = list_any (λ m. key_of m == key_of kind) group.members

-- a group has the kind
abbrev pub has_place : List GroupRule → ParamKind → Bool
has_place groups kind = list_any (λ g. is_member g kind) groups

-- the message with a number
unfoldable pub message_in : KindSet → ℕ → Option MsgKind
message_in p number = find (λ kind. number_of (Message kind) == number) (messages_of p)

-- the parameter with type, length and value that has a number
unfoldable pub tlv_in : KindSet → ℕ → Option ParamKind
tlv_in p number = find (λ kind. number_of (Parameter kind) == number) (filter (λ kind. not (is_tv kind)) (params_of p))

-- the parameter with type and value that has a number
unfoldable pub tv_in : KindSet → ℕ → Option ParamKind
tv_in p number = find (λ kind. number_of (Parameter kind) == number) (filter is_tv (params_of p))
