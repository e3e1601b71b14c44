use Rattle.llrp_words.specs.Calls.Arguments.{command_in}
use Rattle.llrp_words.proofs.ArgumentLemmas.{found_encode, found_show}
use Rattle.llrp_words.proofs.CommandLemmas.{no_fault}
use Rattle.llrp_words.proofs.GivenArguments.{found_if_parsed}
use Rattle.llrp_words.proofs.laws.show_and_encode_have_flag.Goals as goal

pub returns-clause-show : goal.returns-clause-show
returns-clause-show c = λ words parsed named.
    let (hex, all, json, limit, keys, segments) = found_show (command_in words) (found_if_parsed words (no_fault words parsed)) named in
    (hex.0, all.0, json.0, limit.0, record { parsed = parsed; named = named; flag = hex.1; kinds = all.1; form = json.1; bound = limit.1 })

pub returns-clause-encode : goal.returns-clause-encode
returns-clause-encode c = λ words parsed named.
    let (hex, all, json, limit, keys) = found_encode (command_in words) (found_if_parsed words (no_fault words parsed)) named in
    (hex.0, all.0, json.0, limit.0, record { parsed = parsed; named = named; flag = hex.1; kinds = all.1; form = json.1; bound = limit.1 })
