use Rattle.llrp_json.proofs.OpenJsonLemmas.{octets_await}
use Rattle.llrp_json.proofs.printer.JsonPrinterListener.octets.Goals as goal

pub returns : goal.returns
returns c = λ was t a nx. octets_await _ _ _ _ _ _ _ _ was t c.args.form c.args.octets.now a nx c.requires c.has_words_after-self.ensures c.in_ok-push_octets.ensures
