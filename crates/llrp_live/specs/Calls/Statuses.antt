-- A message of a reader that says another status.
use Rattle.std.specs.Prelude.{◌≡◌, ℕ, List, [], ◌∷◌}
use Rattle.llrp_schema.specs.declared.kinds.ParamKind.{ParamKind}
use Rattle.llrp_schema.specs.declared.kinds.ParamKind.TheVariants.{LlrpStatus}
use Rattle.llrp_schema.specs.declared.kinds.Kind.TheVariants.{Parameter}
use Rattle.llrp_schema.specs.Schema.{number_of}
use Rattle.llrp_tree.specs.Tree.{Tree, MessageTree, forest}

-- the kind of an LLRPStatus, in the profile or in the whole standard
abbrev pub IsStatusKind : ParamKind → Type 0
IsStatusKind kind = number_of (Parameter kind) ≡ number_of (Parameter LlrpStatus)

-- an LLRPStatus, whose tail is its text
abbrev pub status : ParamKind → ℕ → List ℕ → Tree
status kind code text = record { kind = kind; fields = code ∷ []; tail = text; children = forest [] }

-- the message with that alone beside its fields, and under its id
abbrev pub SaysStatus : MessageTree → ℕ → List ℕ → MessageTree → Type 0
SaysStatus m code text said =
    (kind : ParamKind) × IsStatusKind kind
    × (said ≡ record { version = m.version; id = m.id; kind = m.kind; fields = m.fields; tail = []; children = forest (status kind code text ∷ []) })
