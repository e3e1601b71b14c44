-- An item has one line under any names.
use Rattle.llrp_stream.specs.declared.item.Item.TheVariants.{Msg, Bad}
use Rattle.llrp_listing.specs.Calls.ItemPrinter.{HasOneText}
use Rattle.llrp_json.specs.JsonNames.{IsNamedJson, in_standard}
use Rattle.llrp_json.specs.declared.names.Names.TheVariants.{Standard}
use Rattle.llrp_json.proofs.OneJson.{one_line_of_item}

pub one_named : HasOneText (IsNamedJson Standard)
one_named (Msg m) s t p q = one_line_of_item (Msg (in_standard m)) s t p q
one_named (Bad id fault) s t p q = one_line_of_item (Bad id fault) s t p q
