-- How an open tree grows by one part.
use Rattle.std.proofs.Common.{ℕ, ◌+◌, ◌-◌, ◌*◌, Bool, List, [], ◌∷◌, ◌++◌, length, Option, Some, None}
use Rattle.std.specs.Prelude.{unwrap_or}
use Rattle.llrp_schema.specs.declared.kinds.ParamKind.{ParamKind}
use Rattle.llrp_schema.specs.declared.kinds.Kind.TheVariants.{Parameter}
use Rattle.llrp_schema.specs.Schema.{fields_of}
use Rattle.llrp_tree.specs.declared.fault.Reason.{Reason}
use Rattle.llrp_tree.specs.Tree.{Forest, none, and}
use Rattle.llrp_tree.specs.Spelling.{Head, message, tlv, tv}
use Rattle.llrp_tree.specs.OpenTree.{Begun, rules, form, set, covers, plain_values}
use Rattle.llrp_tree.specs.FirstFault.{number, tail_at, tv_kind, tlv_kind, tlv_octets, NextPart, ReadField, ReadTail, Close, NoChild, BeginTv, BeginTlv, next_part, next_fault}

pub data Step : Type 0 where
  Fails : (bit : ℕ) (reason : Reason) → Step
  Grows : List Begun → Step
  Ends : Begun → Step

-- a node of which the head is read
abbrev pub begin : Head → ℕ → Begun
begin h stop = record { head = h; stop = stop; fields = []; tail = None; children = none }

-- a row with a parameter more, from its read parts
abbrev pub with_child : Forest → ParamKind → List ℕ → Option (List ℕ) → Forest → Forest
with_child before kind fields tail children = and before kind (plain_values (fields_of (Parameter kind)) fields) (unwrap_or tail []) children

abbrev pub closed : Forest → Head → List ℕ → Option (List ℕ) → Forest → Forest
closed before (message version kind octets id) fields tail children = before
closed before (tlv kind octets) fields tail children = with_child before kind fields tail children
closed before (tv kind) fields tail children = with_child before kind fields tail children

abbrev pub close : Begun → List Begun → Step
close b [] = Ends b
close b (p ∷ outer) = Grows (record p { children = closed p.children b.head b.fields b.tail b.children } ∷ outer)

abbrev pub begun_tv : Option ParamKind → Begun → List Begun → Step
begun_tv None b outer = Ends b
begun_tv (Some kind) b outer = Grows (begin (tv kind) b.stop ∷ b ∷ outer)

abbrev pub begun_tlv : Option ParamKind → (octets at : ℕ) → Begun → List Begun → Step
begun_tlv None octets at b outer = Ends b
begun_tlv (Some kind) octets at b outer = Grows (begin (tlv kind octets) (at + 8 * octets) ∷ b ∷ outer)

abbrev pub grown : NextPart → Begun → List Begun → ℕ → List Bool → Step
grown (ReadField r) b outer at rest = Grows (record b { fields = b.fields ++ number rest 0 r.width ∷ [] } ∷ outer)
grown ReadTail b outer at rest = Grows (record b { tail = Some (tail_at (form b) (plain_values (rules b) b.fields) (b.stop - at) rest) } ∷ outer)
grown Close b outer at rest = close b outer
grown NoChild b outer at rest = Ends b
grown BeginTv b outer at rest = begun_tv (tv_kind (set b) rest) b outer
grown BeginTlv b outer at rest = begun_tlv (tlv_kind (set b) rest) (tlv_octets rest) at b outer

abbrev pub unless_failed : Option (ℕ × Reason) → Step → Step
unless_failed None s = s
unless_failed (Some f) s = Fails f.0 f.1

abbrev pub grown_chain : List Begun → List Bool → Step
grown_chain [] rest = Grows []
grown_chain (b ∷ outer) rest = grown (next_part b (length (covers (b ∷ outer))) rest) b outer (length (covers (b ∷ outer))) rest

-- one step from left to right
unfoldable pub next : List Begun → List Bool → Step
next chain rest = unless_failed (next_fault chain rest) (grown_chain chain rest)
