-- Parameters and messages as trees.
use Rattle.std.specs.Prelude.{ℕ, ◌+◌, ◌*◌, List, [], ◌∷◌, ◌++◌}
use Rattle.llrp_schema.specs.declared.kinds.ParamKind.{ParamKind}
use Rattle.llrp_schema.specs.declared.kinds.MsgKind.{MsgKind}

-- Parameters in a row: those before, and the last one with its kind, its plain fields, the octets of its tail and its children.
pub data Forest : Type 0 where
  none : Forest
  and : (before : Forest) (kind : ParamKind) (fields : List ℕ) (tail : List ℕ) (children : Forest) → Forest

-- one parameter, a lawful one or not
pub record Tree : Type 0 where
  pub kind : ParamKind
  pub fields : List ℕ
  pub tail : List ℕ
  pub children : Forest

-- one message: its plain fields, the octets of its tail, which a message of the profile has not, and its parameters
pub record MessageTree : Type 0 where
  pub version : ℕ
  pub id : ℕ
  pub kind : MsgKind
  pub fields : List ℕ
  pub tail : List ℕ
  pub children : Forest

-- one more parameter in the row
abbrev pub add : Forest → Tree → Forest
add before t = and before t.kind t.fields t.tail t.children

abbrev pub add_all : Forest → List Tree → Forest
add_all before [] = before
add_all before (t ∷ ts) = add_all (add before t) ts

-- a list of parameters as a row, and a row as a list
abbrev pub forest : List Tree → Forest
forest ts = add_all none ts

abbrev pub trees : Forest → List Tree
trees none = []
trees (and before kind fields tail children) = trees before ++ record { kind = kind; fields = fields; tail = tail; children = children } ∷ []

-- the words of 16 bits that octets make, as in the tail of a parameter that has a list of them
abbrev pub words_of : List ℕ → List ℕ
words_of [] = []
words_of (high ∷ []) = []
words_of (high ∷ low ∷ octets) = (256 * high + low) ∷ words_of octets
