-- What holds of what the profile has of a message.
use Rattle.std.specs.Prelude.{◌≡◌, ℕ, List, Some, map}
use Rattle.llrp_schema.specs.declared.kinds.MsgKind.TheVariants.{WholeGetRoSpecsResponse}
use Rattle.llrp_schema.specs.declared.kinds.ParamKind.{ParamKind}
use Rattle.llrp_schema.specs.declared.kinds.ParamKind.TheVariants.{RoSpec, WholeRoSpec}
use Rattle.llrp_schema.specs.declared.kinds.Kind.TheVariants.{Message}
use Rattle.llrp_schema.specs.declared.kinds.KindSet.TheVariants.{Profile, Standard}
use Rattle.llrp_schema.specs.Schema.{number_of, set_of_kind}
use Rattle.llrp_tree.specs.Tree.{Forest, MessageTree}
use Rattle.llrp_tree.specs.Lawful.{IsLawfulMessage}
use Rattle.llrp_tree.specs.Frame.{Frame}
use Rattle.llrp_session.specs.RoSpec.{all_in}
use Rattle.llrp_endpoints.specs.Heard.{own_message}

-- It is a lawful message of the profile with the same type, version, id and fields.
pub record IsOwnPart (m own : MessageTree) : Type 0 where
  pub of_the_profile : set_of_kind (Message own.kind) ≡ Profile
  pub same_type : number_of (Message own.kind) ≡ number_of (Message m.kind)
  pub same_version : own.version ≡ m.version
  pub same_id : own.id ≡ m.id
  pub same_fields : own.fields ≡ m.fields
  pub lawful : IsLawfulMessage own

abbrev pub HeardIsLawful : Type 0
HeardIsLawful = (m own : MessageTree) → IsLawfulMessage m → own_message m ≡ Some own → IsOwnPart m own

-- The bytes are also a frame of a message of the whole standard, of which the profile has this one.
pub record IsHeardAs (own : MessageTree) (bytes : List ℕ) (limit : ℕ) (m : MessageTree) : Type 0 where
  pub of_the_standard : set_of_kind (Message m.kind) ≡ Standard
  pub frame : Frame m bytes limit
  pub heard : own_message m ≡ Some own

-- each frame of a message of the profile, so that a reader of the profile is heard as before
abbrev pub ProfileIsHeard : Type 0
ProfileIsHeard = (own : MessageTree) (bytes : List ℕ) (limit : ℕ) → set_of_kind (Message own.kind) ≡ Profile → Frame own bytes limit → (m : MessageTree) × IsHeardAs own bytes limit m

-- the fields of each parameter of a kind in a row
abbrev pub fields_in : ParamKind → Forest → List (List ℕ)
fields_in kind row = map (λ t. t.fields) (all_in kind row)

-- A GET_ROSPECS_RESPONSE of the whole standard is heard with all its ROSpecs and no others, each with its ROSpecID, Priority and CurrentState.
abbrev pub EachRoSpecIsHeard : Type 0
EachRoSpecIsHeard = (m own : MessageTree) → IsLawfulMessage m → m.kind ≡ WholeGetRoSpecsResponse → own_message m ≡ Some own → fields_in RoSpec own.children ≡ fields_in WholeRoSpec m.children
