-- The version that a connection uses (LLRP 1.1, the chapter on version negotiation).
use Rattle.std.specs.Prelude.{◌≡◌, ℕ, ◌==◌, if◌then◌else◌, List, [], ◌∷◌, Option, Some, None}
use Rattle.llrp_schema.specs.declared.kinds.MsgKind.{MsgKind}
use Rattle.llrp_schema.specs.declared.kinds.MsgKind.TheVariants.{WholeGetSupportedVersion, WholeGetSupportedVersionResponse, WholeSetProtocolVersion, WholeSetProtocolVersionResponse}
use Rattle.llrp_schema.specs.declared.kinds.ParamKind.TheVariants.{WholeLlrpStatus}
use Rattle.llrp_tree.specs.Tree.{Tree, MessageTree, forest}
use Rattle.llrp_versions.specs.declared.version.Version.{Version}
use Rattle.llrp_versions.specs.declared.version.Version.TheVariants.{First, Second}
use Rattle.llrp_versions.specs.declared.heard.Heard.{Heard as Code}
use Rattle.llrp_versions.specs.declared.heard.Heard.TheVariants as code

-- 1 is LLRP 1.0.1, and 2 LLRP 1.1
abbrev pub number_of : Version → ℕ
number_of First = 1
number_of Second = 2

abbrev pub version_of : ℕ → Option Version
version_of n = if n == 1 then Some First else (if n == 2 then Some Second else None)

-- ---- responses, under the id and with the version of the request

abbrev pub status : ℕ → Tree
status code = record { kind = WholeLlrpStatus; fields = code ∷ []; tail = []; children = forest [] }

abbrev pub response : MessageTree → MsgKind → List ℕ → ℕ → MessageTree
response request kind fields code =
    record { version = request.version; id = request.id; kind = kind; fields = fields; tail = []; children = forest (status code ∷ []) }

-- ---- what a message is where a version is in use

-- it is of that version, or of another, or it has a reply, after which this version is in use
pub data Heard : Type 0 where
  InUse : Heard
  Other : Heard
  Answered : (reply : MessageTree) (version : Version) → Heard

-- GET_SUPPORTED_VERSION: the version in use, and the greatest
abbrev pub supported : Version → MessageTree → Heard
supported v request = Answered (response request WholeGetSupportedVersionResponse (number_of v ∷ (2 ∷ [])) 0) v

-- SET_PROTOCOL_VERSION: a version that is known is in use then; any other is M_UnsupportedVersion, 110, and changes nothing
abbrev pub set_to : Version → MessageTree → Option Version → Heard
set_to v request (Some wanted) = Answered (response request WholeSetProtocolVersionResponse [] 0) wanted
set_to v request None = Answered (response request WholeSetProtocolVersionResponse [] 110) v

abbrev pub wanted : List ℕ → Option Version
wanted [] = None
wanted (number ∷ others) = version_of number

abbrev pub set : Version → MessageTree → Heard
set v request = set_to v request (wanted request.fields)

abbrev pub hear_of : MsgKind → Version → MessageTree → Heard
hear_of WholeGetSupportedVersion v m = supported v m
hear_of WholeSetProtocolVersion v m = set v m
hear_of _ v m = if m.version == number_of v then InUse else Other

abbrev pub hear : Version → MessageTree → Heard
hear v m = hear_of m.kind v m

-- what a call returned is this
abbrev pub IsHeard : Code → Heard → Type 0
IsHeard code.InUse h = h ≡ InUse
IsHeard code.Other h = h ≡ Other
IsHeard (code.Answered reply version) h = h ≡ Answered reply version
