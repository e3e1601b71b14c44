use Rattle.std.proofs.Common.{◌≡◌, ◌∙◌, ◌*◌, ap, sym, arith}
use Rattle.std.proofs.lemmas.Result.{on_ok_weaker}
use Rattle.llrp_schema.specs.declared.kinds.Kind.TheVariants.{Parameter}
use Rattle.llrp_schema.specs.Schema.{fields_of}
use Rattle.llrp_tree.specs.OpenTree.{kind_of_head}
use Rattle.llrp_json.specs.Private.StandardNames.{standard_chain, standard_head}
use Rattle.llrp_json.proofs.StandardShapes.{standard_kind}
use Rattle.llrp_json.proofs.StandardTrees.{kind_of_standard, length_chain}
use Rattle.llrp_json.proofs.standard_printer.StandardPrinterListener.parameter.Goals as goal

pub open_parameter-requires : goal.open_parameter-requires
open_parameter-requires c =
    let (was, t, h, level) = c.requires.some in
    let deep = h.deep in
    omega (arith, c.requires.deep, deep, length_chain t, level)

pub returns : goal.returns
returns c =
    on_ok_weaker c.open_parameter.result
    (λ e was t h holds level kind chain.
    let named : kind_of_head (standard_head h) ≡ Parameter c.standard_parameter-kind.result = kind_of_standard h ∙ ap standard_kind kind ∙ ap (λ k. Parameter k) (sym c.standard_parameter-kind.ensures) in
    (e was (standard_chain t) (standard_head h) (8 * c.args._stop) holds named, c.fields-self.ensures ∙ ap fields_of (sym named)))
    c.open_parameter.ensures
