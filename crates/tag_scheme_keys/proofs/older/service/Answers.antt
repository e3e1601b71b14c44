use Rattle.tag_scheme_keys.proofs.OlderKeys.{service_lawful_twin}
use Rattle.tag_scheme_keys.proofs.older.service.Goals as goal

pub of_parts-requires : goal.of_parts-requires
of_parts-requires c = service_lawful_twin c.args.epc c.requires.lawful c.requires.scheme
