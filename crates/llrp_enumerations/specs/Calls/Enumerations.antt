-- The names of numbers of LLRP 1.1: which fields have an enumeration, and the numbers of each with their names.
use Prim.Native.String.{String}
use Rattle.std.specs.Prelude.{ℕ, List, [], ◌∷◌, codes, Option, Some, None, find, nat_eq}
use Rattle.std.specs.Cmp.Lexicographic.{pointwise}
use Rattle.llrp_schema.specs.declared.kinds.MsgKind.{MsgKind}
use Rattle.llrp_schema.specs.declared.kinds.MsgKind.TheVariants.{WholeGetReaderCapabilities, WholeGetReaderConfig}
use Rattle.llrp_schema.specs.declared.kinds.ParamKind.{ParamKind}
use Rattle.llrp_schema.specs.declared.kinds.ParamKind.TheVariants.{RoSpec, RoSpecStartTrigger, RoSpecStopTrigger, AiSpecStopTrigger, TagObservationTrigger, InventoryParameterSpec, KeepaliveSpec, RoReportSpec, EventNotificationState, RoSpecEvent, AiSpecEvent, AntennaEvent, ConnectionAttemptEvent, LlrpStatus, FieldError, ParameterError, WholeRegulatoryCapabilities, WholeRoSpec, WholeRoSpecStartTrigger, WholeRoSpecStopTrigger, WholeAiSpecStopTrigger, WholeTagObservationTrigger, WholeInventoryParameterSpec, WholeRfSurveySpecStopTrigger, WholeAccessSpec, WholeAccessSpecStopTrigger, WholeIdentification, WholeKeepaliveSpec, WholeGpiPortCurrentState, WholeRoReportSpec, WholeAccessReportSpec, WholeEventNotificationState, WholeRoSpecEvent, WholeRfSurveyEvent, WholeAiSpecEvent, WholeAntennaEvent, WholeConnectionAttemptEvent, WholeLlrpStatus, WholeFieldError, WholeParameterError, WholeC1G2UhfRfModeTableEntry, WholeC1G2Filter, WholeC1G2TagInventoryStateAwareFilterAction, WholeC1G2TagInventoryStateUnawareFilterAction, WholeC1G2TagInventoryStateAwareSingulationAction, WholeC1G2LockPayload, WholeC1G2ReadOpSpecResult, WholeC1G2WriteOpSpecResult, WholeC1G2KillOpSpecResult, WholeC1G2LockOpSpecResult, WholeC1G2BlockEraseOpSpecResult, WholeC1G2BlockWriteOpSpecResult}
use Rattle.llrp_schema.specs.declared.kinds.Kind.{Kind}
use Rattle.llrp_schema.specs.declared.kinds.Kind.TheVariants.{Message, Parameter}
use Rattle.llrp_enumerations.specs.declared.enumeration.Enumeration.{Enumeration}
use Rattle.llrp_enumerations.specs.declared.enumeration.Enumeration.TheVariants.{AirProtocols, GetReaderCapabilitiesRequestedData, GetReaderConfigRequestedData, CommunicationsStandard, RoSpecState, RoSpecStartTriggerType, RoSpecStopTriggerType, AiSpecStopTriggerType, TagObservationTriggerType, RfSurveySpecStopTriggerType, AccessSpecState, AccessSpecStopTriggerType, IdentificationType, KeepaliveTriggerType, GpiPortState, RoReportTriggerType, AccessReportTriggerType, NotificationEventType, RoSpecEventType, RfSurveyEventType, AiSpecEventType, AntennaEventType, ConnectionAttemptStatusType, C1G2DrValue, C1G2MValue, C1G2ForwardLinkModulation, C1G2SpectralMaskIndicator, C1G2TruncateAction, C1G2StateAwareTarget, C1G2StateAwareAction, C1G2StateUnawareAction, C1G2TagInventoryStateAwareI, C1G2TagInventoryStateAwareS, C1G2LockPrivilege, C1G2LockDataField, C1G2ReadResultType, C1G2WriteResultType, C1G2KillResultType, C1G2LockResultType, C1G2BlockEraseResultType, C1G2BlockWriteResultType, StatusCode}

-- a number that has a name
pub record NamedValue : Type 0 where
  pub number : ℕ
  pub name : List ℕ

abbrev value : ℕ → String → NamedValue
value number name = record { number = number; name = codes name }

-- a field whose numbers have the names of an enumeration
pub record EnumeratedField : Type 0 where
  pub name : List ℕ
  pub enumeration : Enumeration

abbrev field : String → Enumeration → EnumeratedField
field name enumeration = record { name = codes name; enumeration = enumeration }

-- the fields of a message whose numbers have names (LLRP 1.1, section 17.1)
unfoldable pub message_fields : MsgKind → List EnumeratedField
message_fields WholeGetReaderCapabilities = field "RequestedData" GetReaderCapabilitiesRequestedData ∷ []
message_fields WholeGetReaderConfig = field "RequestedData" GetReaderConfigRequestedData ∷ []
message_fields _ = []

-- those of a parameter (section 17.2)
unfoldable pub parameter_fields : ParamKind → List EnumeratedField
parameter_fields RoSpec = field "CurrentState" RoSpecState ∷ []
parameter_fields RoSpecStartTrigger = field "Type" RoSpecStartTriggerType ∷ []
parameter_fields RoSpecStopTrigger = field "Type" RoSpecStopTriggerType ∷ []
parameter_fields AiSpecStopTrigger = field "Type" AiSpecStopTriggerType ∷ []
parameter_fields TagObservationTrigger = field "Type" TagObservationTriggerType ∷ []
parameter_fields InventoryParameterSpec = field "ProtocolID" AirProtocols ∷ []
parameter_fields KeepaliveSpec = field "Type" KeepaliveTriggerType ∷ []
parameter_fields RoReportSpec = field "Trigger" RoReportTriggerType ∷ []
parameter_fields EventNotificationState = field "EventType" NotificationEventType ∷ []
parameter_fields RoSpecEvent = field "Type" RoSpecEventType ∷ []
parameter_fields AiSpecEvent = field "Type" AiSpecEventType ∷ []
parameter_fields AntennaEvent = field "Type" AntennaEventType ∷ []
parameter_fields ConnectionAttemptEvent = field "Status" ConnectionAttemptStatusType ∷ []
parameter_fields LlrpStatus = field "StatusCode" StatusCode ∷ []
parameter_fields FieldError = field "ErrorCode" StatusCode ∷ []
parameter_fields ParameterError = field "ErrorCode" StatusCode ∷ []
parameter_fields WholeRegulatoryCapabilities = field "CommunicationsStandard" CommunicationsStandard ∷ []
parameter_fields WholeRoSpec = field "CurrentState" RoSpecState ∷ []
parameter_fields WholeRoSpecStartTrigger = field "ROSpecStartTriggerType" RoSpecStartTriggerType ∷ []
parameter_fields WholeRoSpecStopTrigger = field "ROSpecStopTriggerType" RoSpecStopTriggerType ∷ []
parameter_fields WholeAiSpecStopTrigger = field "AISpecStopTriggerType" AiSpecStopTriggerType ∷ []
parameter_fields WholeTagObservationTrigger = field "TriggerType" TagObservationTriggerType ∷ []
parameter_fields WholeInventoryParameterSpec = field "ProtocolID" AirProtocols ∷ []
parameter_fields WholeRfSurveySpecStopTrigger = field "StopTriggerType" RfSurveySpecStopTriggerType ∷ []
parameter_fields WholeAccessSpec = field "ProtocolID" AirProtocols ∷ field "CurrentState" AccessSpecState ∷ []
parameter_fields WholeAccessSpecStopTrigger = field "AccessSpecStopTrigger" AccessSpecStopTriggerType ∷ []
parameter_fields WholeIdentification = field "IDType" IdentificationType ∷ []
parameter_fields WholeKeepaliveSpec = field "KeepaliveTriggerType" KeepaliveTriggerType ∷ []
parameter_fields WholeGpiPortCurrentState = field "State" GpiPortState ∷ []
parameter_fields WholeRoReportSpec = field "ROReportTrigger" RoReportTriggerType ∷ []
parameter_fields WholeAccessReportSpec = field "AccessReportTrigger" AccessReportTriggerType ∷ []
parameter_fields WholeEventNotificationState = field "EventType" NotificationEventType ∷ []
parameter_fields WholeRoSpecEvent = field "EventType" RoSpecEventType ∷ []
parameter_fields WholeRfSurveyEvent = field "EventType" RfSurveyEventType ∷ []
parameter_fields WholeAiSpecEvent = field "EventType" AiSpecEventType ∷ []
parameter_fields WholeAntennaEvent = field "EventType" AntennaEventType ∷ []
parameter_fields WholeConnectionAttemptEvent = field "Status" ConnectionAttemptStatusType ∷ []
parameter_fields WholeLlrpStatus = field "StatusCode" StatusCode ∷ []
parameter_fields WholeFieldError = field "ErrorCode" StatusCode ∷ []
parameter_fields WholeParameterError = field "ErrorCode" StatusCode ∷ []
parameter_fields WholeC1G2UhfRfModeTableEntry = field "DRValue" C1G2DrValue ∷ field "MValue" C1G2MValue ∷ field "ForwardLinkModulation" C1G2ForwardLinkModulation ∷ field "SpectralMaskIndicator" C1G2SpectralMaskIndicator ∷ []
parameter_fields WholeC1G2Filter = field "T" C1G2TruncateAction ∷ []
parameter_fields WholeC1G2TagInventoryStateAwareFilterAction = field "Target" C1G2StateAwareTarget ∷ field "Action" C1G2StateAwareAction ∷ []
parameter_fields WholeC1G2TagInventoryStateUnawareFilterAction = field "Action" C1G2StateUnawareAction ∷ []
parameter_fields WholeC1G2TagInventoryStateAwareSingulationAction = field "I" C1G2TagInventoryStateAwareI ∷ field "S" C1G2TagInventoryStateAwareS ∷ []
parameter_fields WholeC1G2LockPayload = field "Privilege" C1G2LockPrivilege ∷ field "DataField" C1G2LockDataField ∷ []
parameter_fields WholeC1G2ReadOpSpecResult = field "Result" C1G2ReadResultType ∷ []
parameter_fields WholeC1G2WriteOpSpecResult = field "Result" C1G2WriteResultType ∷ []
parameter_fields WholeC1G2KillOpSpecResult = field "Result" C1G2KillResultType ∷ []
parameter_fields WholeC1G2LockOpSpecResult = field "Result" C1G2LockResultType ∷ []
parameter_fields WholeC1G2BlockEraseOpSpecResult = field "Result" C1G2BlockEraseResultType ∷ []
parameter_fields WholeC1G2BlockWriteOpSpecResult = field "Result" C1G2BlockWriteResultType ∷ []
parameter_fields _ = []

abbrev pub fields_of_kind : Kind → List EnumeratedField
fields_of_kind (Message kind) = message_fields kind
fields_of_kind (Parameter kind) = parameter_fields kind

-- the names, of the definitions of the LLRP Toolkits
unfoldable pub values_of : Enumeration → List NamedValue
values_of AirProtocols =
    value 0 "Unspecified" ∷ value 1 "EPCGlobalClass1Gen2" ∷ []
values_of GetReaderCapabilitiesRequestedData =
    value 0 "All" ∷ value 1 "General_Device_Capabilities" ∷ value 2 "LLRP_Capabilities" ∷
    value 3 "Regulatory_Capabilities" ∷ value 4 "LLRP_Air_Protocol_Capabilities" ∷ []
values_of GetReaderConfigRequestedData =
    value 0 "All" ∷ value 1 "Identification" ∷ value 2 "AntennaProperties" ∷
    value 3 "AntennaConfiguration" ∷ value 4 "ROReportSpec" ∷
    value 5 "ReaderEventNotificationSpec" ∷ value 6 "AccessReportSpec" ∷
    value 7 "LLRPConfigurationState" ∷ value 8 "KeepaliveSpec" ∷ value 9 "GPIPortCurrentState" ∷
    value 10 "GPOWriteData" ∷ value 11 "EventsAndReports" ∷ []
values_of CommunicationsStandard =
    value 0 "Unspecified" ∷ value 1 "US_FCC_Part_15" ∷ value 2 "ETSI_302_208" ∷
    value 3 "ETSI_300_220" ∷ value 4 "Australia_LIPD_1W" ∷ value 5 "Australia_LIPD_4W" ∷
    value 6 "Japan_ARIB_STD_T89" ∷ value 7 "Hong_Kong_OFTA_1049" ∷ value 8 "Taiwan_DGT_LP0002" ∷
    value 9 "Korea_MIC_Article_5_2" ∷ []
values_of RoSpecState =
    value 0 "Disabled" ∷ value 1 "Inactive" ∷ value 2 "Active" ∷ []
values_of RoSpecStartTriggerType =
    value 0 "Null" ∷ value 1 "Immediate" ∷ value 2 "Periodic" ∷ value 3 "GPI" ∷ []
values_of RoSpecStopTriggerType =
    value 0 "Null" ∷ value 1 "Duration" ∷ value 2 "GPI_With_Timeout" ∷ []
values_of AiSpecStopTriggerType =
    value 0 "Null" ∷ value 1 "Duration" ∷ value 2 "GPI_With_Timeout" ∷ value 3 "Tag_Observation" ∷
    []
values_of TagObservationTriggerType =
    value 0 "Upon_Seeing_N_Tags_Or_Timeout" ∷
    value 1 "Upon_Seeing_No_More_New_Tags_For_Tms_Or_Timeout" ∷
    value 2 "N_Attempts_To_See_All_Tags_In_FOV_Or_Timeout" ∷ []
values_of RfSurveySpecStopTriggerType =
    value 0 "Null" ∷ value 1 "Duration" ∷ value 2 "N_Iterations_Through_Frequency_Range" ∷ []
values_of AccessSpecState =
    value 0 "Disabled" ∷ value 1 "Active" ∷ []
values_of AccessSpecStopTriggerType =
    value 0 "Null" ∷ value 1 "Operation_Count" ∷ []
values_of IdentificationType =
    value 0 "MAC_Address" ∷ value 1 "EPC" ∷ []
values_of KeepaliveTriggerType =
    value 0 "Null" ∷ value 1 "Periodic" ∷ []
values_of GpiPortState =
    value 0 "Low" ∷ value 1 "High" ∷ value 2 "Unknown" ∷ []
values_of RoReportTriggerType =
    value 0 "None" ∷ value 1 "Upon_N_Tags_Or_End_Of_AISpec" ∷
    value 2 "Upon_N_Tags_Or_End_Of_ROSpec" ∷ []
values_of AccessReportTriggerType =
    value 0 "Whenever_ROReport_Is_Generated" ∷ value 1 "End_Of_AccessSpec" ∷ []
values_of NotificationEventType =
    value 0 "Upon_Hopping_To_Next_Channel" ∷ value 1 "GPI_Event" ∷ value 2 "ROSpec_Event" ∷
    value 3 "Report_Buffer_Fill_Warning" ∷ value 4 "Reader_Exception_Event" ∷
    value 5 "RFSurvey_Event" ∷ value 6 "AISpec_Event" ∷ value 7 "AISpec_Event_With_Details" ∷
    value 8 "Antenna_Event" ∷ value 9 "SpecLoop_Event" ∷ []
values_of RoSpecEventType =
    value 0 "Start_Of_ROSpec" ∷ value 1 "End_Of_ROSpec" ∷ value 2 "Preemption_Of_ROSpec" ∷ []
values_of RfSurveyEventType =
    value 0 "Start_Of_RFSurvey" ∷ value 1 "End_Of_RFSurvey" ∷ []
values_of AiSpecEventType =
    value 0 "End_Of_AISpec" ∷ []
values_of AntennaEventType =
    value 0 "Antenna_Disconnected" ∷ value 1 "Antenna_Connected" ∷ []
values_of ConnectionAttemptStatusType =
    value 0 "Success" ∷ value 1 "Failed_A_Reader_Initiated_Connection_Already_Exists" ∷
    value 2 "Failed_A_Client_Initiated_Connection_Already_Exists" ∷
    value 3 "Failed_Reason_Other_Than_A_Connection_Already_Exists" ∷
    value 4 "Another_Connection_Attempted" ∷ []
values_of C1G2DrValue =
    value 0 "DRV_8" ∷ value 1 "DRV_64_3" ∷ []
values_of C1G2MValue =
    value 0 "MV_FM0" ∷ value 1 "MV_2" ∷ value 2 "MV_4" ∷ value 3 "MV_8" ∷ []
values_of C1G2ForwardLinkModulation =
    value 0 "PR_ASK" ∷ value 1 "SSB_ASK" ∷ value 2 "DSB_ASK" ∷ []
values_of C1G2SpectralMaskIndicator =
    value 0 "Unknown" ∷ value 1 "SI" ∷ value 2 "MI" ∷ value 3 "DI" ∷ []
values_of C1G2TruncateAction =
    value 0 "Unspecified" ∷ value 1 "Do_Not_Truncate" ∷ value 2 "Truncate" ∷ []
values_of C1G2StateAwareTarget =
    value 0 "SL" ∷ value 1 "Inventoried_State_For_Session_S0" ∷
    value 2 "Inventoried_State_For_Session_S1" ∷ value 3 "Inventoried_State_For_Session_S2" ∷
    value 4 "Inventoried_State_For_Session_S3" ∷ []
values_of C1G2StateAwareAction =
    value 0 "AssertSLOrA_DeassertSLOrB" ∷ value 1 "AssertSLOrA_Noop" ∷
    value 2 "Noop_DeassertSLOrB" ∷ value 3 "NegateSLOrABBA_Noop" ∷
    value 4 "DeassertSLOrB_AssertSLOrA" ∷ value 5 "DeassertSLOrB_Noop" ∷
    value 6 "Noop_AssertSLOrA" ∷ value 7 "Noop_NegateSLOrABBA" ∷ []
values_of C1G2StateUnawareAction =
    value 0 "Select_Unselect" ∷ value 1 "Select_DoNothing" ∷ value 2 "DoNothing_Unselect" ∷
    value 3 "Unselect_DoNothing" ∷ value 4 "Unselect_Select" ∷ value 5 "DoNothing_Select" ∷ []
values_of C1G2TagInventoryStateAwareI =
    value 0 "State_A" ∷ value 1 "State_B" ∷ []
values_of C1G2TagInventoryStateAwareS =
    value 0 "SL" ∷ value 1 "Not_SL" ∷ []
values_of C1G2LockPrivilege =
    value 0 "Read_Write" ∷ value 1 "Perma_Lock" ∷ value 2 "Perma_Unlock" ∷ value 3 "Unlock" ∷ []
values_of C1G2LockDataField =
    value 0 "Kill_Password" ∷ value 1 "Access_Password" ∷ value 2 "EPC_Memory" ∷
    value 3 "TID_Memory" ∷ value 4 "User_Memory" ∷ []
values_of C1G2ReadResultType =
    value 0 "Success" ∷ value 1 "Nonspecific_Tag_Error" ∷ value 2 "No_Response_From_Tag" ∷
    value 3 "Nonspecific_Reader_Error" ∷ value 4 "Memory_Overrun_Error" ∷
    value 5 "Memory_Locked_Error" ∷ value 6 "Incorrect_Password_Error" ∷ []
values_of C1G2WriteResultType =
    value 0 "Success" ∷ value 1 "Tag_Memory_Overrun_Error" ∷ value 2 "Tag_Memory_Locked_Error" ∷
    value 3 "Insufficient_Power" ∷ value 4 "Nonspecific_Tag_Error" ∷
    value 5 "No_Response_From_Tag" ∷ value 6 "Nonspecific_Reader_Error" ∷
    value 7 "Incorrect_Password_Error" ∷ []
values_of C1G2KillResultType =
    value 0 "Success" ∷ value 1 "Zero_Kill_Password_Error" ∷ value 2 "Insufficient_Power" ∷
    value 3 "Nonspecific_Tag_Error" ∷ value 4 "No_Response_From_Tag" ∷
    value 5 "Nonspecific_Reader_Error" ∷ value 6 "Incorrect_Password_Error" ∷ []
values_of C1G2LockResultType =
    value 0 "Success" ∷ value 1 "Insufficient_Power" ∷ value 2 "Nonspecific_Tag_Error" ∷
    value 3 "No_Response_From_Tag" ∷ value 4 "Nonspecific_Reader_Error" ∷
    value 5 "Incorrect_Password_Error" ∷ value 6 "Tag_Memory_Overrun_Error" ∷
    value 7 "Tag_Memory_Locked_Error" ∷ []
values_of C1G2BlockEraseResultType =
    value 0 "Success" ∷ value 1 "Tag_Memory_Overrun_Error" ∷ value 2 "Tag_Memory_Locked_Error" ∷
    value 3 "Insufficient_Power" ∷ value 4 "Nonspecific_Tag_Error" ∷
    value 5 "No_Response_From_Tag" ∷ value 6 "Nonspecific_Reader_Error" ∷
    value 7 "Incorrect_Password_Error" ∷ []
values_of C1G2BlockWriteResultType =
    value 0 "Success" ∷ value 1 "Tag_Memory_Overrun_Error" ∷ value 2 "Tag_Memory_Locked_Error" ∷
    value 3 "Insufficient_Power" ∷ value 4 "Nonspecific_Tag_Error" ∷
    value 5 "No_Response_From_Tag" ∷ value 6 "Nonspecific_Reader_Error" ∷
    value 7 "Incorrect_Password_Error" ∷ []
values_of StatusCode =
    value 0 "M_Success" ∷ value 100 "M_ParameterError" ∷ value 101 "M_FieldError" ∷
    value 102 "M_UnexpectedParameter" ∷ value 103 "M_MissingParameter" ∷
    value 104 "M_DuplicateParameter" ∷ value 105 "M_OverflowParameter" ∷
    value 106 "M_OverflowField" ∷ value 107 "M_UnknownParameter" ∷ value 108 "M_UnknownField" ∷
    value 109 "M_UnsupportedMessage" ∷ value 110 "M_UnsupportedVersion" ∷
    value 111 "M_UnsupportedParameter" ∷ value 112 "M_UnexpectedMessage" ∷
    value 200 "P_ParameterError" ∷ value 201 "P_FieldError" ∷ value 202 "P_UnexpectedParameter" ∷
    value 203 "P_MissingParameter" ∷ value 204 "P_DuplicateParameter" ∷
    value 205 "P_OverflowParameter" ∷ value 206 "P_OverflowField" ∷ value 207 "P_UnknownParameter" ∷
    value 208 "P_UnknownField" ∷ value 209 "P_UnsupportedParameter" ∷ value 300 "A_Invalid" ∷
    value 301 "A_OutOfRange" ∷ value 401 "R_DeviceError" ∷ []

-- ---- look-ups

-- the enumeration of the field with a name
abbrev pub enumeration_in : Option EnumeratedField → Option Enumeration
enumeration_in None = None
enumeration_in (Some f) = Some f.enumeration

abbrev pub enumeration_of : Kind → (name : List ℕ) → Option Enumeration
enumeration_of kind name = enumeration_in (find (λ f. pointwise nat_eq f.name name) (fields_of_kind kind))

-- the name of a number
abbrev pub name_in : Option NamedValue → Option (List ℕ)
name_in None = None
name_in (Some v) = Some v.name

abbrev pub number_name : Option Enumeration → ℕ → Option (List ℕ)
number_name None number = None
number_name (Some enumeration) number = name_in (find (λ v. nat_eq v.number number) (values_of enumeration))

-- the name of a number in the field of a kind with a name, if it has one
abbrev pub value_name : Kind → (field : List ℕ) → (number : ℕ) → Option (List ℕ)
value_name kind field number = number_name (enumeration_of kind field) number
