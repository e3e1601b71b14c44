-- The file of --access, and what a reader answers to its messages.
use Rattle.std.specs.Prelude.{◌≡◌, ℕ, suc, ◌-◌, ◌==◌, ◌&&◌, ◌||◌, ◌⊎◌, ⊤, Bool, true, not, if◌then◌else◌, List, [], ◌∷◌, take, filter, find, Option, None, Some, min}
use Rattle.std.specs.Borrow.{Bor}
use Rattle.std.specs.List.{position}
use Rattle.std.specs.Option.{option_map}
use Rattle.llrp_schema.specs.declared.kinds.Kind.TheVariants.{Message}
use Rattle.llrp_schema.specs.declared.kinds.KindSet.TheVariants.{Standard}
use Rattle.llrp_schema.specs.declared.kinds.MsgKind.{MsgKind}
use Rattle.llrp_schema.specs.declared.kinds.MsgKind.TheVariants.{WholeAddAccessSpec, WholeDeleteAccessSpec, WholeEnableAccessSpec, WholeDisableAccessSpec}
use Rattle.llrp_schema.specs.declared.kinds.MsgKind.TheVariants.{WholeAddAccessSpecResponse, WholeEnableAccessSpecResponse, WholeDisableAccessSpecResponse}
use Rattle.llrp_schema.specs.declared.kinds.ParamKind.TheVariants.{WholeLlrpStatus}
use Rattle.llrp_schema.specs.Schema.{number_of}
use Rattle.llrp_stream.specs.Device.{SourceLog}
use Rattle.llrp_session.specs.RoSpec.{field_of, is_kind}
use Rattle.llrp_tree.specs.Tree.{MessageTree, trees}
use Rattle.llrp_tree.specs.declared.TheConstants.{MAX_LIMIT}
use Rattle.llrp_listing.specs.declared.outcome.Refusal.TheVariants.{Name}
use Rattle.llrp_listing.specs.declared.outcome.ToolErr.{ToolErr}
use Rattle.llrp_listing.specs.Copying.{ReadAll}
use Rattle.llrp_listing.specs.Calls.Copying.{ReadStopped}
use Rattle.llrp_listing.specs.Calls.ListingLaws.{IsListing}
use Rattle.llrp_texts.specs.Calls.Texts.{RefusesText}
use Rattle.llrp_texts.specs.declared.texts.TextErr.{TextErr}
use Rattle.llrp_texts.specs.declared.texts.TextErr.TheVariants.{Line, Memory}
use Rattle.llrp_ask.specs.Calls.File.{lines_in}
use Rattle.llrp_endpoints.specs.Asides.{Asides}
use Rattle.llrp_endpoints.specs.Calls.Asides.{deletes_one}
use Rattle.llrp_endpoints.specs.Plan.{Plan}
use Rattle.llrp.specs.declared.access.Access.{Access}
use Rattle.llrp.specs.declared.access.NoAccess.{NoAccess}
use Rattle.llrp.specs.declared.access.NoAccess.TheVariants.{Text, Unread}

-- ---- messages on AccessSpecs

abbrev pub is_of : MsgKind → MessageTree → Bool
is_of kind m = number_of (Message m.kind) == number_of (Message kind)

-- it adds, enables, disables or deletes AccessSpecs (LLRP 1.1, section 12)
abbrev pub is_on_access : MessageTree → Bool
is_on_access m = is_of WholeAddAccessSpec m || is_of WholeEnableAccessSpec m || is_of WholeDisableAccessSpec m || is_of WholeDeleteAccessSpec m

-- how many messages come before the first that does none of these
abbrev pub first_other : List MessageTree → Option ℕ
first_other ms = position (λ m. not (is_on_access m)) ms

-- The text lists such messages alone. Those that delete one AccessSpec are said before the client deletes its ROSpec, all others before it enables that.
pub record ListsAsides (text : List ℕ) (a : Asides) : Type 0 where
  pub messages : List MessageTree
  pub listed : IsListing Standard MAX_LIMIT text messages
  pub no_other : first_other messages ≡ None
  pub enabling : a.enabling ≡ filter (λ m. not (deletes_one m)) messages
  pub deleting : a.deleting ≡ filter deletes_one messages

-- ---- the line of a message: one at level 0, which begins with 0 (48) as no other line of a listing does; 10 is LF

-- how many more messages come before one, after an octet that begins one or does not
abbrev pub left_after : ℕ → Bool → ℕ
left_after left begins = if begins then left - 1 else left

-- how many octets stand before the line of the message that comes after this many others, where a line begins here or does not
abbrev pub message_start : ℕ → Bool → List ℕ → ℕ
message_start left starts [] = 0
message_start left starts (b ∷ bs) = if (starts && (b == 48)) && (left == 0) then 0 else suc (message_start (left_after left (starts && (b == 48))) (b == 10) bs)

-- the number of that line, counted from 1
abbrev pub message_line : ℕ → List ℕ → ℕ
message_line before text = suc (lines_in (take (message_start before true text) text))

-- the text lists messages, and the first that is none on AccessSpecs stands at this line
pub record HasOther (text : List ℕ) (line : ℕ) : Type 0 where
  pub messages : List MessageTree
  pub before : ℕ
  pub listed : IsListing Standard MAX_LIMIT text messages
  pub other : first_other messages ≡ Some before
  pub line_is : line ≡ message_line before text

-- why a text has no such messages
abbrev pub RefusesAsides : List ℕ → TextErr → Type 0
RefusesAsides text (Line line reason) = RefusesText Standard MAX_LIMIT text (Line line reason) ⊎ (HasOther text line × (reason ≡ Name))
RefusesAsides text Memory = ⊤

-- ---- reading

-- all that the source gave was read, and it lists such messages
abbrev pub ReadsAccess : SourceLog → SourceLog → List ℕ → Type 0
ReadsAccess r0 r1 text = ReadAll r0 r1 text × ((a : Asides) × ListsAsides text a)

-- why there are none: reading stopped, or all was read and is refused
abbrev pub RefusesAccess : SourceLog → SourceLog → NoAccess → Type 0
RefusesAccess r0 r1 Unread = (bytes : List ℕ) × (error : ToolErr) × ReadStopped r0 r1 bytes error
RefusesAccess r0 r1 (Text (Line line reason)) = (bytes : List ℕ) × ReadAll r0 r1 bytes × RefusesAsides bytes (Line line reason)
RefusesAccess r0 r1 (Text Memory) = ⊤

-- the text of a file, if there is one
abbrev pub text_of : Option (Bor Access) → Option (List ℕ)
text_of access = option_map (λ a. a.now.text.items) access

-- the plan with what the text lists beside it; what is said in place of its ADD_ROSPEC stays
abbrev pub Says : Plan → Option (List ℕ) → Plan → Type 0
Says plan None result = result ≡ plan
Says plan (Some text) result = (a : Asides) × ListsAsides text a × (result ≡ record plan { asides = record a { whole = plan.asides.whole } })

-- ---- answers

-- the status of a response: the field of its LLRPStatus, and 0 if it has none
abbrev pub status_of : MessageTree → ℕ
status_of m = min (field_of 0 (find (is_kind WholeLlrpStatus) (trees m.children))) 65535

-- it answers a message that adds, enables or disables an AccessSpec
abbrev pub answers_access : MessageTree → Bool
answers_access m = is_of WholeAddAccessSpecResponse m || is_of WholeEnableAccessSpecResponse m || is_of WholeDisableAccessSpecResponse m

-- with which status a message refuses one of those, if it does; that there is none to be deleted is no refusal
abbrev pub refused_status : MessageTree → Option ℕ
refused_status m = if answers_access m && not (status_of m == 0) then Some (status_of m) else None
