-- Lawful parts are not refused.
use Rattle.std.proofs.Common.{◌≡◌, ℕ, List, [], sym, ap, ◌∙◌}
use Rattle.std.specs.Prelude.{Some}
use Rattle.llrp_schema.specs.declared.kinds.MsgKind.{MsgKind}
use Rattle.llrp_schema.specs.declared.kinds.ParamKind.{ParamKind}
use Rattle.llrp_tree.specs.declared.node.NodeFault.{NodeFault}
use Rattle.llrp_tree.specs.Tree.{Tree, forest}
use Rattle.llrp_tree.specs.Lawful.{AreLawful, IsLawfulMessage}
use Rattle.llrp_tree.specs.Checks.{first_fault, first_message_fault}
use Rattle.llrp_tree.proofs.LawLemmas.{lawful_to, message_to}

pub no_fault : (kind : ParamKind) (fields tail : List ℕ) (row children : List Tree) (fault : NodeFault) → tail ≡ [] → row ≡ children → AreLawful kind fields [] (forest children)
    → first_fault kind fields tail (forest row) ≡ Some fault → ⊥
no_fault kind fields tail row children fault t r h e =
    let k = lawful_to kind fields [] (forest children) h in
    let a = ap (λ (x : List ℕ). first_fault kind fields x (forest row)) t in
    let b = ap (λ (x : List Tree). first_fault kind fields [] (forest x)) r in
    let f = sym e ∙ a ∙ b ∙ k in cc

pub no_message_fault : (version id : ℕ) (kind : MsgKind) (fields : List ℕ) (row children : List Tree) (fault : NodeFault) → row ≡ children
    → IsLawfulMessage (record { version = version; id = id; kind = kind; fields = fields; tail = []; children = forest children })
    → first_message_fault version kind fields [] (forest row) ≡ Some fault → ⊥
no_message_fault version id kind fields row children fault r h e =
    let k = message_to (record { version = version; id = id; kind = kind; fields = fields; tail = []; children = forest children }) h in
    let b = ap (λ (x : List Tree). first_message_fault version kind fields [] (forest x)) r in
    let f = sym e ∙ b ∙ k in cc
