use Rattle.llrp_schema.specs.Schema.{fields_of}
use Rattle.llrp_explain.proofs.KindTextLemmas.{narrow}
use Rattle.llrp_explain.proofs.kind_texts.narrow_fields.Goals as goal

pub returns-clause-narrow : goal.returns-clause-narrow
returns-clause-narrow c = narrow c.fields.result.now (fields_of c.args.kind) c.fields.ensures (c.fields_are_sound.ensures.width c.args.kind)
