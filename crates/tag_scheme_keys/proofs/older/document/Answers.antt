use Rattle.tag_scheme_keys.proofs.OlderKeys.{coupon_lawful_twin}
use Rattle.tag_scheme_keys.proofs.older.document.Goals as goal

pub of_parts-requires : goal.of_parts-requires
of_parts-requires c = coupon_lawful_twin c.args.epc c.requires.lawful c.requires.scheme
