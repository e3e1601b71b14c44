use Rattle.std.proofs.Common.{refl}
use Rattle.tag_schemes.proofs.SupplierTexts.{supplier_pieces}
use Rattle.tag_schemes.proofs.supplier_text.print_supplier.Goals as goal

pub returns : goal.returns
returns c = supplier_pieces c.args.epc _ _ _ _ _ _ _ _ refl c.new-text.ensures c.push_str.ensures.bytes c.push_short.ensures.digits c.push_str-2.ensures.bytes c.push_code.ensures.code c.push_str-3.ensures.bytes c.push_short-2.ensures.digits
