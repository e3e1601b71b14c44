-- Messages of a reader that say which field or parameter of a request is refused (LLRP 1.1, section 15).
use Rattle.std.specs.Prelude.{◌≡◌, ℕ, Bool, true, false, List, [], ◌∷◌, Option, None, Some, take}
use Rattle.llrp_schema.specs.declared.kinds.KindSet.{KindSet}
use Rattle.llrp_schema.specs.declared.kinds.KindSet.TheVariants.{Profile, Standard}
use Rattle.llrp_schema.specs.declared.kinds.ParamKind.{ParamKind}
use Rattle.llrp_schema.specs.declared.kinds.ParamKind.TheVariants.{FieldError, ParameterError, WholeFieldError, WholeParameterError}
use Rattle.llrp_schema.specs.declared.kinds.Kind.TheVariants.{Parameter}
use Rattle.llrp_schema.specs.Schema.{set_of_kind}
use Rattle.llrp_tree.specs.declared.fault.Reason.{Reason}
use Rattle.llrp_tree.specs.declared.fault.Reason.TheVariants.{Value, Count, Utf8, ParamType, Misplaced, TooMany, Missing}
use Rattle.llrp_tree.specs.Tree.{Tree, MessageTree, forest, trees}
use Rattle.llrp_live.specs.declared.fault_places.FaultPlace.{FaultPlace}
use Rattle.llrp_live.specs.Calls.Statuses.{IsStatusKind}

-- the ErrorCode of a field that is refused: A_OutOfRange, or A_Invalid
abbrev pub field_code : Reason → ℕ
field_code Value = 301
field_code _ = 300

-- that of the parameter that is refused, or has the field that is: P_UnexpectedParameter, P_MissingParameter, P_OverflowParameter,
-- P_UnknownParameter, P_FieldError, or P_ParameterError
abbrev pub parameter_code : Reason → ℕ
parameter_code Misplaced = 202
parameter_code Missing = 203
parameter_code TooMany = 205
parameter_code ParamType = 207
parameter_code Value = 201
parameter_code Count = 201
parameter_code Utf8 = 201
parameter_code _ = 200

-- that of a parameter with the place in it: of the innermost by the reason, and P_ParameterError of others
abbrev pub code_at : Reason → Bool → ℕ
code_at reason true = parameter_code reason
code_at reason false = 200

abbrev pub field_error : KindSet → ParamKind
field_error Profile = FieldError
field_error Standard = WholeFieldError

abbrev pub parameter_error : KindSet → ParamKind
parameter_error Profile = ParameterError
parameter_error Standard = WholeParameterError

-- a parameter with two fields
abbrev pub pair : ParamKind → ℕ → ℕ → List Tree → Tree
pair kind first second children = record { kind = kind; fields = first ∷ (second ∷ []); tail = []; children = forest children }

-- a FieldError with the number of the field, if it is one
abbrev pub field_errors : KindSet → Option ℕ → Reason → List Tree
field_errors set None reason = []
field_errors set (Some number) reason = pair (field_error set) number (field_code reason) [] ∷ []

-- nothing is left
abbrev pub is_last : List ℕ → Bool
is_last [] = true
is_last (t ∷ ts) = false

-- in a ParameterError for each parameter that has it, the outermost first
abbrev pub errors : KindSet → Option ℕ → Reason → List ℕ → List Tree
errors set field reason [] = field_errors set field reason
errors set field reason (t ∷ ts) = pair (parameter_error set) t (code_at reason (is_last ts)) (errors set field reason ts) ∷ []

-- the message with such errors in its LLRPStatus, which is all that it has beside its fields, and with its status, its text and its id
abbrev pub SaysPlace : MessageTree → FaultPlace → MessageTree → Type 0
SaysPlace m p said =
    (first : Tree) × (rest : List Tree) × (trees m.children ≡ first ∷ rest) × IsStatusKind first.kind
    × (said ≡ record {
      version = m.version;
      id = m.id;
      kind = m.kind;
      fields = m.fields;
      tail = [];
      children =
          forest (record { kind = first.kind; fields = first.fields; tail = first.tail; children = forest (errors (set_of_kind (Parameter first.kind)) p.field p.reason (take p.depth p.types)) } ∷ []);
    })
