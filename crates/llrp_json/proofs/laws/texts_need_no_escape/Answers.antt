use Rattle.std.proofs.Common.{◌≡◌}
use Rattle.llrp_schema.specs.Schema.{fields_of, name_of}
use Rattle.llrp_schema.proofs.SchemaLemmas.{All-from_list_all}
use Rattle.llrp_json.specs.JsonValues.{inside}
use Rattle.llrp_json.proofs.PlainNames.{fields_plain, is_named, kind_plain}
use Rattle.llrp_json.proofs.PlainTexts.{epc_plain}
use Rattle.llrp_json.proofs.ValueLemmas.{inside_plain}
use Rattle.llrp_json.proofs.laws.texts_need_no_escape.Goals as goal

pub returns-clause-epc : goal.returns-clause-epc
returns-clause-epc c = λ word text is. inside_plain text (epc_plain word text is)

pub returns-clause-kind : goal.returns-clause-kind
returns-clause-kind c = λ kind. inside_plain (name_of kind) (kind_plain kind)

pub returns-clause-field : goal.returns-clause-field
returns-clause-field c = λ kind. All-from_list_all is_named (λ field. inside field.name ≡ field.name) (λ field plain. inside_plain field.name plain) (fields_of kind) (fields_plain kind)
