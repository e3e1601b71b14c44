use Rattle.std.proofs.Common.{◌≡◌, true, take}
use Rattle.std.specs.List.{list_all}
use Rattle.tag_schemes.specs.Suppliers.{is_code_character}
use Rattle.tag_schemes.proofs.supplier_text.is_no_code.Given as goal

abbrev pub invariant-loop-octet : goal.invariant-loop-octet
invariant-loop-octet l = list_all is_code_character (take l.octet-index l.text) ≡ true
