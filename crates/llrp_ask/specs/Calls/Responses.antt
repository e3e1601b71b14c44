-- What a client waits for after a message of the whole standard (LLRP 1.1, sections 9 to 13 and 16).
use Rattle.std.specs.Prelude.{Option, Some, None, option_map}
use Rattle.llrp_schema.specs.declared.kinds.MsgKind.{MsgKind}
use Rattle.llrp_schema.specs.declared.kinds.MsgKind.TheVariants.{WholeGetReaderCapabilities, WholeGetReaderConfig, WholeSetReaderConfig, WholeCloseConnection, WholeAddRoSpec, WholeDeleteRoSpec, WholeStartRoSpec, WholeStopRoSpec, WholeEnableRoSpec, WholeDisableRoSpec, WholeGetRoSpecs, WholeAddAccessSpec, WholeDeleteAccessSpec, WholeEnableAccessSpec, WholeDisableAccessSpec, WholeGetAccessSpecs, WholeClientRequestOp, WholeGetSupportedVersion, WholeSetProtocolVersion, WholeGetReaderCapabilitiesResponse, WholeGetReaderConfigResponse, WholeSetReaderConfigResponse, WholeCloseConnectionResponse, WholeAddRoSpecResponse, WholeDeleteRoSpecResponse, WholeStartRoSpecResponse, WholeStopRoSpecResponse, WholeEnableRoSpecResponse, WholeDisableRoSpecResponse, WholeGetRoSpecsResponse, WholeAddAccessSpecResponse, WholeDeleteAccessSpecResponse, WholeEnableAccessSpecResponse, WholeDisableAccessSpecResponse, WholeGetAccessSpecsResponse, WholeClientRequestOpResponse, WholeGetSupportedVersionResponse, WholeSetProtocolVersionResponse, WholeCustomMessage}
use Rattle.llrp_tree.specs.Tree.{MessageTree}
use Rattle.llrp_ask.specs.declared.step.Wait.{Wait}
use Rattle.llrp_ask.specs.declared.step.Wait.TheVariants.{Answer}

-- the kind that responds to a kind: its name has _RESPONSE at its end. A CUSTOM_MESSAGE may respond to a CUSTOM_MESSAGE.
abbrev pub response_to : MsgKind → Option MsgKind
response_to WholeGetReaderCapabilities = Some WholeGetReaderCapabilitiesResponse
response_to WholeGetReaderConfig = Some WholeGetReaderConfigResponse
response_to WholeSetReaderConfig = Some WholeSetReaderConfigResponse
response_to WholeCloseConnection = Some WholeCloseConnectionResponse
response_to WholeAddRoSpec = Some WholeAddRoSpecResponse
response_to WholeDeleteRoSpec = Some WholeDeleteRoSpecResponse
response_to WholeStartRoSpec = Some WholeStartRoSpecResponse
response_to WholeStopRoSpec = Some WholeStopRoSpecResponse
response_to WholeEnableRoSpec = Some WholeEnableRoSpecResponse
response_to WholeDisableRoSpec = Some WholeDisableRoSpecResponse
response_to WholeGetRoSpecs = Some WholeGetRoSpecsResponse
response_to WholeAddAccessSpec = Some WholeAddAccessSpecResponse
response_to WholeDeleteAccessSpec = Some WholeDeleteAccessSpecResponse
response_to WholeEnableAccessSpec = Some WholeEnableAccessSpecResponse
response_to WholeDisableAccessSpec = Some WholeDisableAccessSpecResponse
response_to WholeGetAccessSpecs = Some WholeGetAccessSpecsResponse
response_to WholeClientRequestOp = Some WholeClientRequestOpResponse
response_to WholeGetSupportedVersion = Some WholeGetSupportedVersionResponse
response_to WholeSetProtocolVersion = Some WholeSetProtocolVersionResponse
response_to WholeCustomMessage = Some WholeCustomMessage
response_to _ = None

-- what is waited for after a message: the response with its id
abbrev pub awaited : MessageTree → Option Wait
awaited m = option_map (λ kind. Answer kind m.id) (response_to m.kind)
