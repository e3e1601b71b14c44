use Rattle.tag_schemes.proofs.SupplierTexts.{code_utf8}
use Rattle.tag_schemes.proofs.supplier_text.push_code.Goals as goal

pub unreachable-requires : goal.unreachable-requires
unreachable-requires c = c.in_default.ensures.cases.0 (code_utf8 c.args.code.now c.requires.code)
