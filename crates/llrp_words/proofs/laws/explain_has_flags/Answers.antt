use Rattle.llrp_words.specs.Calls.Arguments.{command_in}
use Rattle.llrp_words.proofs.ArgumentLemmas.{found_explain}
use Rattle.llrp_words.proofs.CommandLemmas.{no_fault}
use Rattle.llrp_words.proofs.GivenArguments.{found_if_parsed}
use Rattle.llrp_words.proofs.laws.explain_has_flags.Goals as goal

pub returns : goal.returns
returns c = λ words parsed named.
    let has = found_explain (command_in words) (found_if_parsed words (no_fault words parsed)) named in
    (has.0.0, has.1.0, has.2.0, has.4.0, has.3.0, (record { parsed = parsed; named = named; flag = has.0.1; kinds = has.1.1; form = has.2.1; bound = has.3.1 }, has.4.1))
