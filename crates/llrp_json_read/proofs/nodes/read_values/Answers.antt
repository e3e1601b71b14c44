use Rattle.std.proofs.Common.{◌≡◌, ◌≤◌, true, List, length, sym, subst}
use Rattle.std.specs.List.{list_all}
use Rattle.llrp_schema.specs.Schema.{FieldRule}
use Rattle.llrp_schema.proofs.TableLaws.{few_plain_fields}
use Rattle.llrp_json_read.specs.Private.Words.{is_readable, plain}
use Rattle.llrp_json_read.proofs.ReadableFields.{all_readable}
use Rattle.llrp_json_read.proofs.nodes.read_values.Goals as goal

pub read_fields-requires-clause-few : goal.read_fields-requires-clause-few
read_fields-requires-clause-few c = subst (λ (rules : List FieldRule). length (plain rules) ≤ 12) (sym c.fields.ensures) (few_plain_fields c.args.kind)

pub read_fields-requires-clause-readable : goal.read_fields-requires-clause-readable
read_fields-requires-clause-readable c = subst (λ (rules : List FieldRule). list_all is_readable (plain rules) ≡ true) (sym c.fields.ensures) (all_readable c.args.kind)
