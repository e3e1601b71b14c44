use Rattle.std.proofs.Common.{[], ◌∷◌, ◌∙◌, codes}
use Rattle.std.proofs.lemmas.Result.{on_ok_weaker}
use Rattle.llrp_schema.specs.declared.kinds.Kind.TheVariants.{Message}
use Rattle.llrp_schema.specs.Schema.{name_of}
use Rattle.llrp_json.proofs.PlainNames.{kind_plain, name_appended}
use Rattle.llrp_json.proofs.printer.push_message_name.Goals as goal

pub returns : goal.returns
returns c = on_ok_weaker c.push_text-3.result
    (λ e. name_appended (codes "{\"message\":\"") (name_of (Message c.args.kind)) (34 ∷ []) _ _ _ _ _ (kind_plain (Message c.args.kind)) (c.as_bytes.ensures.value ∙ c.name.ensures) c.in_ok-push_text.ensures c.in_ok-push_text-2.ensures e)
    c.push_text-3.ensures
