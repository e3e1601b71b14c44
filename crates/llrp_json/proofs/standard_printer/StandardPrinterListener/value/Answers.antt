use Rattle.std.proofs.Common.{◌∙◌, ◌<◌, ◌^◌, ap, sym, subst, arith, length}
use Rattle.std.proofs.lemmas.Result.{on_ok_weaker}
use Rattle.llrp_schema.specs.declared.kinds.ParamKind.{ParamKind}
use Rattle.llrp_schema.specs.declared.kinds.Kind.TheVariants.{Parameter}
use Rattle.llrp_schema.specs.Schema.{bits_of, fields_of, is_tv}
use Rattle.llrp_json.specs.Private.StandardNames.{standard_chain}
use Rattle.llrp_json.proofs.OpenJsonLemmas.{next_in_some}
use Rattle.llrp_json.proofs.StandardTrees.{length_chain, standard_tv, value_chain, value_fits}
use Rattle.llrp_json.proofs.standard_printer.StandardPrinterListener.value.Goals as goal

pub push_parameter_of_value-requires-clause-tv : goal.push_parameter_of_value-requires-clause-tv
push_parameter_of_value-requires-clause-tv c = ap is_tv c.standard_parameter.ensures ∙ standard_tv c.args.kind c.requires.short

pub push_parameter_of_value-requires-clause-fits : goal.push_parameter_of_value-requires-clause-fits
push_parameter_of_value-requires-clause-fits c =
    subst (λ (k : ParamKind). c.args.value < 2 ^ bits_of (fields_of (Parameter k))) (sym c.standard_parameter.ensures) (value_fits c.args.kind c.args.value c.requires.fits)

pub returns : goal.returns
returns c =
    on_ok_weaker c.push_parameter_of_value.result
    (λ e was t h l nx.
    let some : 0 < length (standard_chain t) = omega (arith, length_chain t, next_in_some t c.args.kind c.args.value nx) in
    rw (value_chain c.args.kind c.args.value t) (rw c.standard_parameter.ensures at (e was (standard_chain t) h some)))
    c.push_parameter_of_value.ensures
