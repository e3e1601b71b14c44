use Rattle.std.proofs.Common.{codes, refl}
use Rattle.llrp_words.specs.Calls.Arguments.{command_in, word_in}
use Rattle.llrp_words.proofs.ArgumentLemmas.{found_epc}
use Rattle.llrp_words.proofs.CommandLemmas.{no_fault}
use Rattle.llrp_words.proofs.GivenArguments.{found_if_parsed}
use Rattle.llrp_words.proofs.laws.epc_has_words.Goals as goal

pub returns : goal.returns
returns c = λ words parsed named.
    let (forms, list, json, count, filter) = found_epc (command_in words) (found_if_parsed words (no_fault words parsed)) named in (
      word_in (codes "TEXT") (command_in words),
      forms.0,
      list.0,
      json.0,
      word_in (codes "to") (command_in words),
      word_in (codes "schemes") (command_in words),
      count.0,
      filter.0,
      word_in (codes "prefixes") (command_in words),
      record { parsed = parsed; named = named; given = refl; all = forms.1; lines = list.1; object = json.1; form = refl; set = refl; digits = count.1; value = filter.1; table = refl },
    )
